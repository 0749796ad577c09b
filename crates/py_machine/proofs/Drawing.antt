-- A draw that was recorded is the next of all draws that begin with those recorded.
use Rattle.std.proofs.Common.{◌≡◌, List, [], ◌∷◌, ◌++◌, length, Some, set, refl, append_assoc, ◌∙◌, ℕ}
use Rattle.std.specs.Prelude.{slice_get}
use Rattle.std.proofs.Math.Seq.{set-append_seam}
use Rattle.nb_outside.specs.declared.feed.Drawn.{Drawn}
use Rattle.nb_outside.specs.Feeds.{Seen, Gives, Fed}
use Rattle.nb_outside.proofs.Feeding.{fed_one, fed_more}
use Rattle.py_machine.specs.declared.machine.Machine.{Machine}
use Rattle.py_machine.specs.Runs.{Begins, draw, drawn, taken}

pub set_last : (xs zs ws : List Drawn) (a d : Drawn) (at : ℕ) → zs ≡ xs ++ a ∷ [] → at ≡ length xs → ws ≡ set zs at d → ws ≡ xs ++ d ∷ []
set_last xs zs ws a d at e f h = h ∙ rw (e, f) (set-append_seam xs a [] d)

next : (xs : List Drawn) (d : Drawn) (ys : List Drawn) → slice_get (xs ++ d ∷ ys) (length xs) ≡ Some d
next [] d ys = refl
next (x ∷ xs) d ys = next xs d ys

pub begins_before : (m n : Machine) (d : Drawn) (draws : List Drawn) → n ≡ drawn d m → Begins n.drawn draws → Begins m.drawn draws
begins_before m n d draws e b = record { rest = d ∷ b.rest; is = b.is ∙ rw e (append_assoc m.drawn (d ∷ []) b.rest) }

pub draw_taken : (m n : Machine) (d : Drawn) (draws : List Drawn) → n ≡ drawn d m → Begins n.drawn draws → draw draws m ≡ taken (Some d) m
unfolding draw
draw_taken m n d draws e b =
    let is : draws ≡ m.drawn ++ d ∷ b.rest = b.is ∙ rw e (append_assoc m.drawn (d ∷ []) b.rest) in
    rw (is, next m.drawn d b.rest) refl

-- one draw more from a feed
pub fed_next : (start s t : Seen) (xs : List Drawn) (d : Drawn) → Fed start xs s → Gives s d t → Fed start (xs ++ d ∷ []) t
fed_next start s t xs d f g = fed_more start s t xs (d ∷ []) f (fed_one s t d g)
