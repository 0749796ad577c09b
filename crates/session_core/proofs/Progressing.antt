-- A journal that is one entry longer.
use Rattle.std.proofs.Common.{◌≡◌, ℕ, List, [], ◌∷◌, ◌++◌, refl, sym, ap, ◌∙◌, append_assoc}
use Rattle.std.proofs.lemmas.List.{append-nil}
use Rattle.session_core.specs.declared.entry.Entry.{Entry}
use Rattle.session_core.specs.Meanings.{Meaning}
use Rattle.session_core.specs.Legal.{Phase, settled, sealed, arriving, moved, Progress, after, all_after, before_all, progress_of, MayCome, AllMayCome, IsLegal, asked_by, asked_after, asked}
use Rattle.session_core.specs.Answering.{is_away}

pub away_moved : (phase : Phase) → is_away (moved phase) ≡ is_away phase
away_moved settled = refl
away_moved (sealed request to) = refl
away_moved (arriving request to) = refl

pub all_after_more : (p : Progress) (es : List Entry) (e : Entry) → all_after p (es ++ e ∷ []) ≡ after (all_after p es) e
all_after_more p [] e = refl
all_after_more p (x ∷ es) e = all_after_more (after p x) es e

pub progress_more : (es : List Entry) (e : Entry) → progress_of (es ++ e ∷ []) ≡ after (progress_of es) e
progress_more es e = all_after_more before_all es e

asked_after_more : (p : Progress) (es : List Entry) (e : Entry) → asked_after p (es ++ e ∷ []) ≡ asked_after p es ++ asked_by (all_after p es).phase e
asked_after_more p [] e = append-nil (asked_by p.phase e)
asked_after_more p (x ∷ es) e = ap (λ rs. asked_by p.phase x ++ rs) (asked_after_more (after p x) es e) ∙ sym (append_assoc (asked_by p.phase x) (asked_after (after p x) es) (asked_by (all_after (after p x) es).phase e))

pub asked_more : (es : List Entry) (e : Entry) → asked (es ++ e ∷ []) ≡ asked es ++ asked_by (progress_of es).phase e
asked_more es e = asked_after_more before_all es e

module _ (meaning : Meaning) (hosts : ℕ) where
  all_may_come_more : (p : Progress) (es : List Entry) (e : Entry) → AllMayCome meaning hosts p es → MayCome meaning hosts (all_after p es) e → AllMayCome meaning hosts p (es ++ e ∷ [])
  all_may_come_more p [] e h may = (may, tt)
  all_may_come_more p (x ∷ es) e h may = (h.0, all_may_come_more (after p x) es e h.1 may)

  pub legal_more : (es : List Entry) (e : Entry) → IsLegal meaning hosts es → MayCome meaning hosts (progress_of es) e → IsLegal meaning hosts (es ++ e ∷ [])
  legal_more [] e h may = absurd h
  legal_more (x ∷ es) e h may = (h.0, all_may_come_more (after before_all x) es e h.1 may)
