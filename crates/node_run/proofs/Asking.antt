-- What was asked of a session that has one producer, once all is answered.
use Rattle.std.proofs.Common.{◌≡◌, ◌==◌, ◌≤◌, ◌⊎◌, ℕ, zero, suc, Bool, true, false, cond, List, [], ◌∷◌, ◌++◌, filter, map, refl, sym, ap, ◌∙◌, subst, append_assoc, append-nil, inl, inr, eq-eqb, arith}
use Rattle.ruled_queue.specs.Rule.{of, Keeps}
use Rattle.session_core.specs.declared.request.Header.{Header}
use Rattle.session_core.specs.declared.request.Channel.{Channel}
use Rattle.session_core.specs.declared.request.Request.{Request}
use Rattle.session_core.specs.declared.entry.Entry.{Entry}
use Rattle.session_core.specs.declared.entry.Entry.TheVariants.{Opened, Ran, Died, Dead, Sealed, Moved, Adopted, Refused, Resumed}
use Rattle.session_core.specs.Asks.{is_main}
use Rattle.session_core.specs.Meanings.{Meaning}
use Rattle.session_core.specs.Legal.{IsLegal, asked, main_asked}
use Rattle.session_queues.specs.declared.items.MainItem.{MainItem}
use Rattle.session_queues.specs.declared.items.MainItem.TheVariants.{Opening, Asked}
use Rattle.session_queues.specs.Items.{number_of, frontend_of}
use Rattle.session_queues.specs.Ends.{Held, FoundNothing, HasWaiting}
use Rattle.session_gate.specs.Answered.{opening_by, opening_of, as_main, as_control, IsAnswered}
use Rattle.session_gate.proofs.Gathered.{main_all, control_all, main_none, control_none}

-- ---- items of number 0 alone

either_way : (b : Bool) → (b ≡ true) ⊎ (b ≡ false)
either_way true = inl refl
either_way false = inr refl

positive : (n : ℕ) → (n == 0) ≡ false → 1 ≤ n
positive zero is = cc
positive (suc n) is = omega arith

module _ {T : Type 0} (number : T → ℕ) where
  first_yes : (n : ℕ) (x : T) (xs : List T) → (number x == n) ≡ true → of number n (x ∷ xs) ≡ x ∷ of number n xs
  first_yes n x xs is = ap (λ b. cond b (x ∷ of number n xs) (of number n xs)) is

  first_no : (n : ℕ) (x : T) (xs : List T) → (number x == n) ≡ false → of number n (x ∷ xs) ≡ of number n xs
  first_no n x xs is = ap (λ b. cond b (x ∷ of number n xs) (of number n xs)) is

  no_item : (n : ℕ) (x : T) (xs : List T) → (number x == n) ≡ true → of number n (x ∷ xs) ≡ [] → ⊥
  no_item n x xs is none = let never : x ∷ of number n xs ≡ [] = sym (first_yes n x xs is) ∙ none in cc

  later_none : (n : ℕ) (x : T) (xs : List T) → of number n (x ∷ xs) ≡ [] → of number n xs ≡ []
  later_none n x xs none = elim (either_way (number x == n)) [ inl is ↦ absurd (no_item n x xs is none) | inr is ↦ sym (first_no n x xs is) ∙ none ]

  -- if no item has another number, all have number 0
  pub all_of_zero : (xs : List T) → ((n : ℕ) → 1 ≤ n → of number n xs ≡ []) → of number 0 xs ≡ xs
  all_of_zero [] none = refl
  all_of_zero (x ∷ xs) none = elim (either_way (number x == 0)) [
    | inl is ↦ first_yes 0 x xs is ∙ ap (λ l. x ∷ l) (all_of_zero xs (λ n some. later_none n x xs (none n some)))
    | inr is ↦ absurd (no_item (number x) x xs (eq-eqb (number x) (number x) refl) (none (number x) (positive (number x) is)))
  ]

-- ---- the requests among what is in a main queue

requests_in : List MainItem → List Request
requests_in [] = []
requests_in (Opening kernel host request channel ∷ items) = requests_in items
requests_in (Asked r ∷ items) = r ∷ requests_in items

requests_asked : (rs : List Request) → requests_in (map (λ r. Asked r) rs) ≡ rs
unfolding requests_in
requests_asked [] = refl
requests_asked (r ∷ rs) = ap (λ l. r ∷ l) (requests_asked rs)

opening_skipped : (kernel : ℕ) (e : Entry) (items : List MainItem) → requests_in (opening_by kernel e ++ items) ≡ requests_in items
unfolding requests_in
opening_skipped kernel (Opened host request channel) items = refl
opening_skipped kernel (Ran host request draws reply) items = refl
opening_skipped kernel (Died host request count cause) items = refl
opening_skipped kernel (Dead host request count) items = refl
opening_skipped kernel (Sealed host request to) items = refl
opening_skipped kernel (Moved to) items = refl
opening_skipped kernel (Adopted from to request certified objects) items = refl
opening_skipped kernel (Refused host request reason) items = refl
opening_skipped kernel (Resumed host request) items = refl

openings_skipped : (kernel : ℕ) (es : List Entry) (items : List MainItem) → requests_in (opening_of kernel es ++ items) ≡ requests_in items
openings_skipped kernel [] items = refl
openings_skipped kernel (e ∷ es) items = ap requests_in (append_assoc (opening_by kernel e) (opening_of kernel es) items) ∙ opening_skipped kernel e (opening_of kernel es ++ items) ∙ openings_skipped kernel es items

after_opening : (kernel host : ℕ) (request : Header) (channel : Channel) (items : List MainItem) → requests_in (Opening kernel host request channel ∷ items) ≡ requests_in items
unfolding requests_in
after_opening kernel host request channel items = refl

-- ---- what a journal answers

-- the first entry of a legal journal is the opening that waited first
begins_with : (meaning : Meaning) (hosts kernel_of kernel : ℕ) (es : List Entry) (host : ℕ) (request : Header) (channel : Channel) (items more : List MainItem) → IsLegal meaning hosts es
    → Opening kernel_of host request channel ∷ items ≡ opening_of kernel es ++ more → (kernel ≡ kernel_of) × ((later : List Entry) × (es ≡ Opened host request channel ∷ later))
begins_with meaning hosts kernel_of kernel [] host request channel items more legal is = absurd legal
begins_with meaning hosts kernel_of kernel (Opened h r c ∷ es) host request channel items more legal is =
    let same : Opening kernel_of host request channel ∷ items ≡ Opening kernel h r c ∷ (opening_of kernel es ++ more) = is in
    (cc, (es, cc))
begins_with meaning hosts kernel_of kernel (Ran h r draws reply ∷ es) host request channel items more legal is = absurd legal.0
begins_with meaning hosts kernel_of kernel (Died h r count cause ∷ es) host request channel items more legal is = absurd legal.0
begins_with meaning hosts kernel_of kernel (Dead h r count ∷ es) host request channel items more legal is = absurd legal.0
begins_with meaning hosts kernel_of kernel (Sealed h r to ∷ es) host request channel items more legal is = absurd legal.0
begins_with meaning hosts kernel_of kernel (Moved to ∷ es) host request channel items more legal is = absurd legal.0
begins_with meaning hosts kernel_of kernel (Adopted from to r certified objects ∷ es) host request channel items more legal is = absurd legal.0
begins_with meaning hosts kernel_of kernel (Refused h r reason ∷ es) host request channel items more legal is = absurd legal.0
begins_with meaning hosts kernel_of kernel (Resumed h r ∷ es) host request channel items more legal is = absurd legal.0

-- an owner that took in the one producer's lists owes nothing, and nothing waits
module _ (kernel : ℕ) (es : List Entry) (ends : Held) (answered : IsAnswered kernel es ends []) (none : FoundNothing ends) where
  -- main is the producer's list
  pub main_is : (l : List MainItem) → ends.main.lists ≡ (0, l) ∷ [] → ends.main.given ≡ 1 → l ≡ opening_of kernel es ++ as_main (asked es)
  main_is l lists given =
      main_all kernel es ends 0 l answered none (subst (Keeps 0 l) (sym lists) (inl (refl, refl)))
      ∙ all_of_zero number_of (opening_of kernel es ++ as_main (asked es)) (λ n some. main_none kernel es ends n answered none (omega arith) (omega arith))

  -- and so is control
  pub control_is : (l : List Request) → ends.control.lists ≡ (0, l) ∷ [] → ends.control.given ≡ 1 → l ≡ as_control (asked es)
  control_is l lists given =
      control_all kernel es ends 0 l answered none (subst (Keeps 0 l) (sym lists) (inl (refl, refl)))
      ∙ all_of_zero frontend_of (as_control (asked es)) (λ n some. control_none kernel es ends n answered none (omega arith) (omega arith))

-- an owner that took in the one producer's lists owes nothing, and this waits
module _ (kernel : ℕ) (es : List Entry) (ends : Held) (answered : IsAnswered kernel es ends []) (waits : HasWaiting ends) where
  -- main is what the journal answers of it, and then what waits
  pub main_begins : (l : List MainItem) → ends.main.lists ≡ (0, l) ∷ [] → ends.main.given ≡ 1 → (more : List MainItem) × (l ≡ (opening_of kernel es ++ as_main (asked es)) ++ more)
  main_begins l lists given =
      let w = waits.0.1 in
      let items = waits.0.0 in
      let popped : ends.main.popped ≡ opening_of kernel es ++ as_main (asked es) = answered.0 ∙ ap (λ rs. opening_of kernel es ++ as_main rs) (append-nil (asked es)) in (
        items,
        w.of_each 0 l (subst (Keeps 0 l) (sym lists) (inl (refl, refl)))
            ∙ all_of_zero number_of (ends.main.popped ++ items) (λ n some. w.later (omega arith) n (omega arith))
            ∙ ap (λ p. p ++ items) popped,
      )

  -- and so is control
  pub control_begins : (l : List Request) → ends.control.lists ≡ (0, l) ∷ [] → ends.control.given ≡ 1 → (more : List Request) × (l ≡ as_control (asked es) ++ more)
  control_begins l lists given =
      let w = waits.1.1 in
      let items = waits.1.0 in
      let popped : ends.control.popped ≡ as_control (asked es) = answered.1 ∙ ap as_control (append-nil (asked es)) in (
        items,
        w.of_each 0 l (subst (Keeps 0 l) (sym lists) (inl (refl, refl)))
            ∙ all_of_zero frontend_of (ends.control.popped ++ items) (λ n some. w.later (omega arith) n (omega arith))
            ∙ ap (λ p. p ++ items) popped,
      )

requests_both : (items more : List MainItem) → requests_in (items ++ more) ≡ requests_in items ++ requests_in more
unfolding requests_in
requests_both [] more = refl
requests_both (Opening kernel host request channel ∷ items) more = requests_both items more
requests_both (Asked r ∷ items) more = ap (λ l. r ∷ l) (requests_both items more)

-- the first requests on main after the opening are those that the journal answers
pub main_requests_begin : (kernel_of host : ℕ) (request : Header) (channel : Channel) (rs : List Request) (kernel : ℕ) (es : List Entry) (more : List MainItem)
    → Opening kernel_of host request channel ∷ as_main rs ≡ (opening_of kernel es ++ as_main (asked es)) ++ more → (later : List Request) × (filter is_main rs ≡ main_asked es ++ later)
main_requests_begin kernel_of host request channel rs kernel es more is = (
  requests_in more,
  sym (requests_asked (filter is_main rs)) ∙ sym (after_opening kernel_of host request channel (as_main rs)) ∙ ap requests_in is
      ∙ requests_both (opening_of kernel es ++ as_main (asked es)) more
      ∙ ap (λ l. l ++ requests_in more) (openings_skipped kernel es (as_main (asked es)) ∙ requests_asked (main_asked es)),
)

-- the requests on main after the opening are those that the journal answers
pub main_requests_are : (kernel_of host : ℕ) (request : Header) (channel : Channel) (rs : List Request) (kernel : ℕ) (es : List Entry)
    → Opening kernel_of host request channel ∷ as_main rs ≡ opening_of kernel es ++ as_main (asked es) → main_asked es ≡ filter is_main rs
main_requests_are kernel_of host request channel rs kernel es is =
    sym (requests_asked (main_asked es)) ∙ sym (openings_skipped kernel es (as_main (asked es))) ∙ ap requests_in (sym is)
    ∙ after_opening kernel_of host request channel (as_main rs) ∙ requests_asked (filter is_main rs)

pub begins : (meaning : Meaning) (hosts kernel_of kernel : ℕ) (es : List Entry) (host : ℕ) (request : Header) (channel : Channel) (items more : List MainItem) → IsLegal meaning hosts es
    → Opening kernel_of host request channel ∷ items ≡ opening_of kernel es ++ more → (kernel ≡ kernel_of) × ((later : List Entry) × (es ≡ Opened host request channel ∷ later))
begins = begins_with
