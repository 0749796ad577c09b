mod Answering
mod Leaving
mod Holding
mod Numbering
