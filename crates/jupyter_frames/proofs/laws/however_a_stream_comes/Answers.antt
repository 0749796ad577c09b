use Rattle.jupyter_frames.proofs.Turning.{came_is, place_is, are_first, are_all}
use Rattle.jupyter_frames.proofs.laws.however_a_stream_comes.Goals as goal

pub returns-clause-held : goal.returns-clause-held
returns-clause-held _ = came_is

pub returns-clause-place : goal.returns-clause-place
returns-clause-place _ = place_is

pub returns-clause-first : goal.returns-clause-first
returns-clause-first _ = are_first

pub returns-clause-all : goal.returns-clause-all
returns-clause-all _ = are_all
