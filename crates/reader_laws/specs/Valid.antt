-- The valid states of a session: each function in them is what its text alone is read as.
use Rattle.py_heap.specs.declared.state.State.{State}
use Rattle.py_heap.specs.Valid.{IsValid}
use Rattle.reader_laws.specs.Texts.{IsItsText}

abbrev pub IsValidState : State → Type 0
IsValidState = IsValid IsItsText
