use Rattle.py_reader.proofs.Scanned.{kind_is}
use Rattle.py_reader.proofs.scan.kind_at.Goals as goal

pub returns : goal.returns
returns c = kind_is _ _ _ c.requires
