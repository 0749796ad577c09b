-- How a reply tells an error of a cell.
use Rattle.std.specs.Prelude.{codes}
use Rattle.py_reader.specs.declared.fault.SyntaxFault.{SyntaxFault}
use Rattle.py_reader.specs.Texts.{fault_text}
use Rattle.py_machine.specs.Errors.{error_name}
use Rattle.py_meaning.specs.declared.end.CellError.{CellError}
use Rattle.py_meaning.specs.declared.end.CellError.TheVariants as error
use Rattle.session_core.specs.declared.reply.Failure.{Failure}

-- a draw that failed
abbrev pub feed_failure : Failure
feed_failure = record { name = codes "OSError"; text = codes "feed" }

abbrev pub failure : CellError → Failure
failure (error.Raised e) = record { name = error_name e.kind; text = e.text }
failure error.Feed = feed_failure

-- why a code has no tree
abbrev pub refused : SyntaxFault → Failure
refused fault = record { name = codes "SyntaxError"; text = fault_text fault }
