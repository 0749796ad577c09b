-- What a text forces that has been read up to here: the places of its parts at each depth, whatever comes.
use Rattle.std.specs.Prelude.{ℕ, Bool, true, false, List, [], ◌∷◌, Option, Some, None}
use Rattle.py_frames.specs.declared.frames.State as reading
use Rattle.py_frames.specs.Values.{beside}
use Rattle.py_frames.specs.Forced.{forced, Sooner}
use Rattle.py_blocks.specs.declared.state.Begun.{Begun}
use Rattle.py_blocks.specs.declared.state.Outer.{Outer}
use Rattle.py_blocks.specs.declared.state.Purpose.{Purpose}
use Rattle.py_blocks.specs.declared.state.Purpose.TheVariants as purpose
use Rattle.py_blocks.specs.declared.state.Simple.{Simple}
use Rattle.py_blocks.specs.declared.state.Spot.{Spot}
use Rattle.py_blocks.specs.declared.state.Spot.TheVariants as spot
use Rattle.py_blocks.specs.declared.state.State.{State}
use Rattle.py_blocks.specs.declared.state.State.TheVariants as h
use Rattle.py_blocks.specs.Blocks.{settled}

-- in blocks that are open: what has ended before each, and each as a part
abbrev pub enclose : List Outer → List ℕ → List ℕ
enclose [] inner = inner
enclose (o ∷ os) inner = enclose os (beside o.before.under (o.from ∷ beside o.under inner))

abbrev pub at_spot : Spot → List Outer → List ℕ → List ℕ
at_spot (spot.Own done) os inner = enclose os (beside done.under inner)
at_spot (spot.Behind o) os inner = enclose (o ∷ os) inner

-- a simple statement with this in it
abbrev pub in_simple : Simple → List ℕ → List ℕ
in_simple x inner = at_spot x.spot x.outers (x.from ∷ inner)

-- its expression, which may still turn out to be targets, and targets before it
abbrev pub in_purpose : Purpose → reading.State → List ℕ
in_purpose purpose.Showing r = forced true r
in_purpose purpose.Giving r = forced false r
in_purpose purpose.Deleting r = forced true r
in_purpose (purpose.Assigning x) r = beside x.under (forced false r)
in_purpose (purpose.Augmenting to op under) r = beside under (forced false r)

-- a compound statement with this in it
abbrev pub in_begun : Begun → List ℕ → List ℕ
in_begun b inner = enclose b.outers (beside b.before.under (b.from ∷ inner))

abbrev pub forced_now : State → List ℕ
forced_now (h.Line os done last) = enclose os (settled done last).under
forced_now (h.InSimple x u r) = in_simple x (in_purpose u r)
forced_now (h.AfterWord x w) = in_simple x []
forced_now (h.InGlobal x ns) = in_simple x []
forced_now (h.HasGlobal x ns) = in_simple x []
forced_now (h.InTest x r) = in_begun x.begun (beside x.under (forced false r))
forced_now (h.InVariables b ns) = in_begun b []
forced_now (h.HasVariables b ns) = in_begun b []
forced_now (h.AfterElse os done b) = enclose os (beside done.under (b.from ∷ b.under))
forced_now (h.AfterDef b) = in_begun b []
forced_now (h.AfterDefName b n) = in_begun b []
forced_now (h.InParams b n ps) = in_begun b []
forced_now (h.HasParams b n ps) = in_begun b []
forced_now (h.AfterParams b n ps) = in_begun b []
forced_now (h.AfterColon os o) = enclose (o ∷ os) []
forced_now (h.AfterNewline os o) = enclose (o ∷ os) []
forced_now (h.End done) = done.under

-- in the next state, if there is one, each depth is reached no later
abbrev pub Grows : List ℕ → Option State → Type 0
Grows p None = Unit {0}
Grows p (Some s) = Sooner p (forced_now s)
