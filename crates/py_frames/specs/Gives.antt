-- What a function gives, unless memory fails. None means a token that is refused.
use Rattle.std.specs.Prelude.{◌≡◌, Option, Some, None, Result, Ok, Err}
use Rattle.py_frames.specs.declared.stop.Stop.{Stop}
use Rattle.py_frames.specs.declared.stop.Stop.TheVariants.{Refused, Memory}

abbrev pub Refuses : {A : Type 0} → Stop → Option A → Type 0
Refuses Refused expected = expected ≡ None
Refuses Memory expected = Unit {0}

abbrev pub Gives : {A : Type 0} → Result A Stop → Option A → Type 0
Gives (Ok a) expected = expected ≡ Some a
Gives (Err e) expected = Refuses e expected
