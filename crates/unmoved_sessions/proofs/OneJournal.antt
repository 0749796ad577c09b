-- A session that isn't short of memory has one journal, but for the certificates of its moves.
use Rattle.std.proofs.Common.{◌≡◌, ℕ, ◌+◌, List, [], ◌∷◌, ◌++◌, append_assoc, Some, sym, refl, ap, ◌∙◌, subst, arith}
use Rattle.std.specs.Prelude.{replicate}
use Rattle.std.proofs.lemmas.List.{replicate-append-replicate}
use Rattle.nb_outside.specs.declared.feed.Drawn.{Drawn}
use Rattle.nb_outside.specs.declared.feed.Drawn.TheVariants.{Failed}
use Rattle.session_core.specs.declared.entry.Entry.{Entry}
use Rattle.session_core.specs.declared.entry.Entry.TheVariants.{Opened}
use Rattle.session_core.specs.Feeding.{drawn_in, AreFirstAnswers}
use Rattle.session_core.specs.Legal.{settled, before_all, after, progress_of, IsLegal, asked}
use Rattle.node_intake.specs.Intake.{Taken, main_requests, control_requests}
use Rattle.node_run.specs.Journals.{IsJournalOf}
use Rattle.notebook_meaning.specs.Notebooks.{notebooks}
use Rattle.unmoved_sessions.specs.Alike.{HadMemoryThroughout, AreAlike}
use Rattle.unmoved_sessions.proofs.Asked.{main_alone}
use Rattle.unmoved_sessions.proofs.NotebooksOneWay.{notebooks_one_way}
use Rattle.unmoved_sessions.proofs.OneList.{one_list}

-- beginnings of what a feed gives are beginnings of one list
one_feed : (gives d e : List Drawn) → AreFirstAnswers (Some gives) d → AreFirstAnswers (Some gives) e → (x : List Drawn) × (y : List Drawn) × (d ++ x ≡ e ++ y)
one_feed gives d e (x, n, one) (y, m, two) =
    let swapped : replicate n Failed ++ replicate m Failed ≡ replicate m Failed ++ replicate n Failed =
    replicate-append-replicate n m Failed ∙ (ap (λ k. replicate k Failed) (omega arith) ∙ sym (replicate-append-replicate m n Failed)) in (
      x ++ replicate m Failed,
      y ++ replicate n Failed,
      sym (append_assoc d x (replicate m Failed)) ∙ (ap (λ z. z ++ replicate m Failed) (sym one) ∙ (append_assoc gives (replicate n Failed) (replicate m Failed) ∙ (ap (λ z. gives ++ z) swapped
          ∙ (sym (append_assoc gives (replicate m Failed) (replicate n Failed)) ∙ (ap (λ z. z ++ replicate n Failed) two ∙ append_assoc e y (replicate n Failed)))))),
    )

module _ (hosts : ℕ) (gives : List Drawn) (s : Taken) (none : control_requests s ≡ []) where
  all_asked : (es : List Entry) → IsJournalOf notebooks hosts (Some gives) s es → asked es ≡ main_requests s
  all_asked es is = sym (main_alone (asked es) (is.control ∙ none)) ∙ is.main

  pub one_journal : (es fs : List Entry) → IsJournalOf notebooks hosts (Some gives) s es → IsJournalOf notebooks hosts (Some gives) s fs → HadMemoryThroughout es → HadMemoryThroughout fs → AreAlike es fs
  one_journal es fs one two had had_too =
      let (rest, begins) = one.begins in
      let (other, starts) = two.begins in
      let first = Opened s.host s.request s.channel in
      let legal = subst (IsLegal notebooks hosts) begins one.legal in
      let legal_too = subst (IsLegal notebooks hosts) starts two.legal in
      let asks : asked (first ∷ rest) ≡ asked (first ∷ other) = ap asked (sym begins) ∙ (all_asked es one ∙ (sym (all_asked fs two) ∙ ap asked starts)) in
      let (x, y, drew) = one_feed gives (drawn_in es) (drawn_in fs) one.fed two.fed in
      let drawn : drawn_in (first ∷ rest) ++ x ≡ drawn_in (first ∷ other) ++ y = ap (λ z. drawn_in z ++ x) (sym begins) ∙ (drew ∙ ap (λ z. drawn_in z ++ y) starts) in
      let ends = subst (λ (z : List Entry). (progress_of z).phase ≡ settled) begins one.settled in
      let ends_too = subst (λ (z : List Entry). (progress_of z).phase ≡ settled) starts two.settled in
      let all = subst HadMemoryThroughout begins had in
      let all_too = subst HadMemoryThroughout starts had_too in
      let later : AreAlike rest other = one_list notebooks hosts notebooks_one_way (after before_all first) rest other x y legal.1 legal_too.1 asks ends ends_too all.1 all_too.1 drawn in
      let alike : AreAlike (first ∷ rest) (first ∷ other) = (refl, later) in
      subst (λ (z : List Entry). AreAlike z fs) (sym begins) (subst (λ (z : List Entry). AreAlike (first ∷ rest) z) (sym starts) alike)
