pub mod Finishing
pub mod Passing
pub mod Referring
pub mod Undrawn
pub mod Walking
pub mod OneParts
pub mod OneWay
pub mod Lasting
