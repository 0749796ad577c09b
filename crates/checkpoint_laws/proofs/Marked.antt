-- What is marked while cells and versions are read.
use Rattle.std.proofs.Common.{map, ◌≡◌, ℕ, zero, suc, ◌+◌, ◌<◌, ◌≤◌, Bool, true, false, cond, List, [], ◌∷◌, ◌++◌, length, None, refl, sym, ap, ◌∙◌, subst, inl, inr, arith}
use Rattle.std.specs.Prelude.{Contains}
use Rattle.std.proofs.lemmas.Bool.{cases_Bool, eq-eqb, ne_eqb, cases_eq}
use Rattle.std.proofs.lemmas.List.{append_assoc, length-append}
use Rattle.graph_model.specs.declared.graph.Version.{Version}
use Rattle.graph_model.specs.declared.graph.Graph.{Graph}
use Rattle.graph_model.specs.declared.plan.Plan.{Plan}
use Rattle.graph_model.specs.Faults.{Ascends}
use Rattle.py_laws.proofs.Partners.{first_in, later_in}
use Rattle.run_graph.proofs.Lists.{cons_cases}
use Rattle.py_heap.specs.declared.state.State.{State}
use Rattle.part_bytes.specs.declared.part.PartValue.{PartValue}
use Rattle.part_bytes.specs.Parts.{part_of}
use Rattle.checkpoint_bytes.specs.Texts.{lists}
use Rattle.checkpoint_reader.specs.declared.fields.Versions.{Versions}
use Rattle.checkpoint_reader.specs.Fields.{marked}
use Rattle.checkpoint_laws.specs.Spelled.{part_in, part_at}
use Rattle.checkpoint_laws.proofs.Copied.{version_at}

-- of the k numbers from n on, those that are in the list
unfoldable pub listed : List ℕ → ℕ → ℕ → List ℕ
listed ns n zero = []
listed ns n (suc k) = cond (lists ns n) (n ∷ listed ns (n + 1) k) (listed ns (n + 1) k)

-- ---- the numbers of a list that ascends are those that it lists

abbrev pub AllFrom : ℕ → List ℕ → Type 0
AllFrom n ns = (m : ℕ) → Contains ns m → n ≤ m

not_listed : (ns : List ℕ) (n : ℕ) → AllFrom (n + 1) ns → lists ns n ≡ false
not_listed [] n h = refl
not_listed (m ∷ ns) n h =
    let l = h m (first_in m ns) in
    rw (ne_eqb m n (λ e. omega (arith, l, e))) (not_listed ns n (λ k c. h k (later_in m ns k c)))

later_listed : (m : ℕ) (ns : List ℕ) (n k : ℕ) → m < n → listed (m ∷ ns) n k ≡ listed ns n k
unfolding listed
later_listed m ns n zero l = refl
later_listed m ns n (suc k) l =
    let rest = later_listed m ns (n + 1) k (omega (arith, l)) in
    rw (ne_eqb m n (λ e. omega (arith, l, e)), rest) refl

none_listed : (n k : ℕ) → listed [] n k ≡ []
unfolding listed
none_listed n zero = refl
none_listed n (suc k) = none_listed (n + 1) k

ascends_rest : (m : ℕ) (ns : List ℕ) → Ascends (λ a b. a < b) (m ∷ ns) → Ascends (λ a b. a < b) ns
ascends_rest m [] a = tt
ascends_rest m (n ∷ ns) a = a.1

above_first : (m : ℕ) (ns : List ℕ) → Ascends (λ a b. a < b) (m ∷ ns) → AllFrom (m + 1) ns
above_first m [] a = λ k c. absurd (let l = c.1 in omega (arith, l))
above_first m (n ∷ ns) a = λ k c. elim (cons_cases n ns k c) [
  | inl e ↦ let l = a.0 in omega (arith, l, e)
  | inr d ↦ let l = a.0 in let r = above_first n ns a.1 k d in omega (arith, l, r)
]

pub all_listed : (k n : ℕ) (ns : List ℕ) → Ascends (λ a b. a < b) ns → AllFrom n ns → ((m : ℕ) → Contains ns m → m < n + k) → listed ns n k ≡ ns
unfolding listed
all_listed zero n [] a low high = refl
all_listed zero n (m ∷ ns) a low high = absurd (let l = low m (first_in m ns) in let h = high m (first_in m ns) in omega (arith, l, h))
all_listed (suc k) n [] a low high = none_listed (n + 1) k
all_listed (suc k) n (m ∷ ns) a low high = elim (cases_eq m n) [
  | inl e ↦
      let above = above_first m ns a in
      let rest : listed ns (n + 1) k ≡ ns = all_listed k (n + 1) ns (ascends_rest m ns a) (λ j c. let l = above j c in omega (arith, l, e))
      (λ j c. let h = high j (later_in m ns j c) in omega (arith, h)) in
      rw (eq-eqb m n e) (ap (λ (js : List ℕ). n ∷ js) (later_listed m ns (n + 1) k (omega (arith, e)) ∙ rest) ∙ ap (λ (j : ℕ). j ∷ ns) (sym e))
  | inr d ↦
      let first = low m (first_in m ns) in
      let above = above_first m ns a in
      let from : AllFrom (n + 1) (m ∷ ns) = λ j c. elim (cons_cases m ns j c) [
        | inl e ↦ omega (arith, first, d, e)
        | inr more ↦ let l = above j more in omega (arith, first, l)
      ] in
      rw (not_listed (m ∷ ns) n from) (all_listed k (n + 1) (m ∷ ns) a from (λ j c. let h = high j c in omega (arith, h)))
]

pub marked_then : (ms : List ℕ) (n : ℕ) (b : Bool) (rest : List ℕ) → marked ms n b ++ rest ≡ ms ++ cond b (n ∷ rest) rest
marked_then ms n true rest = append_assoc ms (n ∷ []) rest
marked_then ms n false rest = refl

-- the parts of those versions that are copied, of versions from number n on
unfoldable pub parts_from : State → Plan → ℕ → List Version → List PartValue
parts_from s p n [] = []
parts_from s p n (x ∷ xs) = cond (lists p.copied n) (part_of s x.names ∷ parts_from s p (n + 1) xs) (parts_from s p (n + 1) xs)

module _ (s : State) (g : Graph) (p : Plan) where
  parts_mapped : (xs front : List Version) → g.versions ≡ front ++ xs → (n : ℕ) → n ≡ length front + 1 → parts_from s p n xs ≡ map (part_at s g) (listed p.copied n (length xs))
  unfolding listed parts_from
  parts_mapped [] front e n k = refl
  parts_mapped (x ∷ xs) front e n k =
      let size : length (front ++ x ∷ []) ≡ length front + 1 = length-append front (x ∷ []) in
      let rest = parts_mapped xs (front ++ x ∷ []) (e ∙ sym (append_assoc front (x ∷ []) xs)) (n + 1) (omega (arith, size, k)) in
      let there : part_at s g n ≡ part_of s x.names = ap (λ (j : ℕ). part_at s g j) k ∙ ap (λ o. part_in s o) (version_at g front x xs e).1 in
      elim (cases_Bool (lists p.copied n)) [
        | inl t ↦ rw t (ap (λ (q : PartValue). q ∷ parts_from s p (n + 1) xs) (sym there) ∙ ap (λ (qs : List PartValue). part_at s g n ∷ qs) rest)
        | inr f ↦ rw f rest
      ]

  pub parts_are : parts_from s p 1 g.versions ≡ map (part_at s g) (listed p.copied 1 (length g.versions))
  parts_are = parts_mapped g.versions [] refl 1 refl

abbrev pub versions_of : List Version → List ℕ → List PartValue → ℕ → Versions
versions_of rs ns ps known = record { records = rs; copied = ns; parts = ps; unlike = None; known = known }

pub parts_then : (b : Bool) (ps : List PartValue) (q : PartValue) (rest : List PartValue) → cond b (ps ++ q ∷ []) ps ++ rest ≡ ps ++ cond b (q ∷ rest) rest
parts_then true ps q rest = append_assoc ps (q ∷ []) rest
parts_then false ps q rest = refl
