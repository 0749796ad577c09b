-- What is said of a checkpoint, over a source that tells.
use Rattle.std.proofs.Common.{◌≡◌, ℕ, true, false, List, [], Option, Some, None, refl, sym, ap, ◌∙◌, ◌⊎◌, subst, inl, inr, arith}
use Rattle.std.specs.Prelude.{◌==◌, ◌||◌}
use Rattle.std.proofs.lemmas.Bool.{or_cases, or_left, eqb-true, false≢true}
use Rattle.nb_outside.specs.Streams.{Adds, Takes, IsAtEnd}
use Rattle.restore_run.specs.declared.fault.RestoreFault.{RestoreFault}
use Rattle.restore_run.specs.declared.fault.RestoreFault.TheVariants as fault
use Rattle.restore_run.specs.Restoring.{IsRestoreFault}
use Rattle.checkpoint_commands.specs.Told.{status_of}
use Rattle.elastic_notebook.specs.declared.say.Question.{Question}
use Rattle.elastic_notebook.specs.declared.say.Question.TheVariants.{Plan, Restore}
use Rattle.node_run.specs.Frames.{AddsFront}
use Rattle.elastic_notebook.specs.Saying.{Says, is_said, is_silent, IsAnswered, SaysTold}
use Rattle.node_run.proofs.Streaming.{Adds-none}

-- ---- statuses

silent_is : (s : ℕ) → is_silent s ≡ true → (s ≡ 3) ⊎ ((s ≡ 5) ⊎ (s ≡ 10))
silent_is s h = elim (or_cases (s == 3) ((s == 5) || (s == 10)) h) [
  | inl a ↦ inl (eqb-true s 3 a)
  | inr b ↦ elim (or_cases (s == 5) (s == 10) b) [ inl a ↦ inr (inl (eqb-true s 5 a)) | inr a ↦ inr (inr (eqb-true s 10 a)) ]
]

no_other : (s n : ℕ) → s ≡ n → is_said n ≡ false → is_said s ≡ true → ⊥
no_other s n e f h = false≢true (sym f ∙ (ap is_said (sym e) ∙ h))

silent_unsaid : (s : ℕ) → is_silent s ≡ true → is_said s ≡ true → ⊥
silent_unsaid s h said = elim (silent_is s h) [
  | inl e ↦ no_other s 3 e refl said
  | inr b ↦ elim b [ inl e ↦ no_other s 5 e refl said | inr e ↦ no_other s 10 e refl said ]
]

silent_not_cut : (s : ℕ) → is_silent s ≡ true → s ≡ 4 → ⊥
silent_not_cut s h four = elim (silent_is s h) [
  | inl e ↦ let no : ⊥ = omega (arith, e, four) in no
  | inr b ↦ elim b [ inl e ↦ let no : ⊥ = omega (arith, e, four) in no | inr e ↦ let no : ⊥ = omega (arith, e, four) in no ]
]

restored_status : (bytes : List ℕ) (status : ℕ) (f : RestoreFault) → IsRestoreFault bytes f → status ≡ status_of f → is_said status ≡ true
restored_status bytes status fault.OutOfMemory is e = absurd is
restored_status bytes status (fault.Checkpoint f) is e = ap is_said e
restored_status bytes status (fault.DrewAgain c) is e = ap is_said e
restored_status bytes status (fault.Unlike v) is e = ap is_said e
restored_status bytes status (fault.Loose name) is e = ap is_said e

-- what is said has one of these statuses
pub said_status : (q : Question) (bytes : List ℕ) (status : ℕ) (text : List ℕ) → Says q bytes status text → is_said status ≡ true
said_status (Plan w) bytes status text (inl (k, are, inl p)) = ap is_said p.0
said_status (Plan w) bytes status text (inl (k, are, inr (inl p))) = ap is_said p.0
said_status (Plan w) bytes status text (inl (k, are, inr (inr p))) = ap is_said p.0
said_status (Plan w) bytes status text (inr p) = ap is_said p.0
said_status Restore bytes status text (inl (r, are, e, is)) = ap is_said e
said_status Restore bytes status text (inr (f, are, e, is)) = restored_status bytes status f are e

pub said_answered : (q : Question) (bytes : List ℕ) (status : ℕ) (text : List ℕ) → Says q bytes status text → IsAnswered status
said_answered q bytes status text says = or_left (is_said status) ((status == 4) || is_silent status) (said_status q bytes status text says)

-- ---- over a source that tells

-- nothing is said
pub told_nothing : (q : Question) (status : ℕ) (old new written : Option (List ℕ)) (taken : List ℕ) → is_silent status ≡ true → Takes old new taken → SaysTold q status old new written written
told_nothing q status None new written taken silent t = t
told_nothing q status (Some had) new written taken silent (rest, parts, is) = (
  taken,
  rest,
  parts,
  is,
  record {
    whole = λ e. absurd (silent_unsaid status silent e);
    cut = λ e. absurd (silent_not_cut status silent e);
    silent = λ e. Adds-none written;
  },
)

at_end : (new : Option (List ℕ)) (rest : List ℕ) → new ≡ Some rest → IsAtEnd new → rest ≡ []
at_end new rest e end = subst IsAtEnd e end

-- all was said, and written
pub told_all : (q : Question) (status : ℕ) (old new a b : Option (List ℕ)) (taken text bytes : List ℕ) → bytes ≡ taken → Says q bytes status text → Adds a b text → IsAtEnd new → Takes old new taken
    → SaysTold q status old new a b
told_all q status None new a b taken text bytes same says adds end t = t
told_all q status (Some had) new a b taken text bytes same says adds end (rest, parts, is) =
    let said = said_status q bytes status text says in (
      taken,
      rest,
      parts,
      is,
      record {
        whole = λ e. (at_end new rest is end, text, subst (λ (bs : List ℕ). Says q bs status text) same says, adds);
        cut = λ e. absurd (no_other status 4 e refl said);
        silent = λ e. absurd (silent_unsaid status e said);
      },
    )

-- some of it was written
pub told_front : (q : Question) (said : ℕ) (old new a b : Option (List ℕ)) (taken text bytes : List ℕ) → bytes ≡ taken → Says q bytes said text → AddsFront a b text → IsAtEnd new → Takes old new taken
    → SaysTold q 4 old new a b
told_front q said None new a b taken text bytes same says adds end t = t
told_front q said (Some had) new a b taken text bytes same says adds end (rest, parts, is) = (
  taken,
  rest,
  parts,
  is,
  record {
    whole = λ e. absurd (false≢true e);
    cut = λ e. (at_end new rest is end, said, text, subst (λ (bs : List ℕ). Says q bs said text) same says, adds);
    silent = λ e. absurd (false≢true e);
  },
)
