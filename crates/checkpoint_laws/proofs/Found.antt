-- What a step that read something took off the bytes.
use Rattle.std.proofs.Common.{◌≡◌, ℕ, ℤ, zero, suc, ◌+◌, ◌-◌, ◌<◌, ◌≤◌, ◌^◌, true, List, [], ◌∷◌, ◌++◌, length, take, drop, Option, Some, None, Ok, Err, refl, sym, ap, ◌∙◌, subst, inl, inr, arith}
use Rattle.std.specs.Prelude.{nat_le, ◌==◌, slice_get, slice_index, slice_range, FitsSigned}
use Rattle.std.specs.Int.{w128, cast_signed, cast_unsigned}
use Rattle.std.specs.Str.{is_utf8}
use Rattle.std.specs.List.{flat_map}
use Rattle.std.proofs.lemmas.Bool.{cases_Bool, cases_lt, leb-true}
use Rattle.std.proofs.lemmas.Option.{slice_get_within}
use Rattle.std.proofs.lemmas.Int.{of_z-to_z}
use Rattle.std.proofs.Math.Facts.{sfits_to_z}
use Rattle.std.proofs.lemmas.List.{append-nil, append_assoc, length-append, length-drop, length-take-le, take-append-drop, drop_at, get_or-append-add, get_or_append_left, get_or_past}
use Rattle.byteorder.specs.Endian.{big_number, big_bytes}
use Rattle.byteorder.specs.Numbers.{big_from-lt}
use Rattle.part_bytes.specs.Tables.{number_of}
use Rattle.part_bytes.specs.Texts.{four as four_bytes, sixteen as sixteen_bytes, text_bytes, by_number}
use Rattle.checkpoint_reader.specs.declared.forms.Texts.{Texts}
use Rattle.checkpoint_reader.specs.declared.forms.Texts.TheVariants.{InPlace, Numbered}
use Rattle.checkpoint_reader.specs.declared.part_fault.PartFault.{PartFault}
use Rattle.checkpoint_reader.specs.declared.part_fault.PartFault.TheVariants.{Cut, BadRef, BadText}
use Rattle.checkpoint_reader.specs.declared.spot.Spot.{Spot}
use Rattle.checkpoint_reader.specs.PartReads.{Answer, Read, pure, after, more}
use Rattle.checkpoint_reader.specs.PartReading.{taken, byte, four, sixteen, spelled_text, text_by_number, text, as_text, known_after, text_there, numbered_text}
use Rattle.part_bytes.specs.Plain.{IsText}
use Rattle.checkpoint_laws.specs.SpelledParts.{counted}
use Rattle.checkpoint_laws.proofs.Numbers.{IsBytes, bytes_back}
use Rattle.checkpoint_laws.proofs.Counts.{spell_of, AreThere, Counts, Goes, goes_none, goes_join}
use Rattle.checkpoint_laws.proofs.Listed.{AreListed, IsTable, placed, text_at, counted_next}
use Rattle.checkpoint_laws.proofs.Offs.{answer, Stands, AllGood}

-- ---- answers

read_or : {A : Type 0} → A → Spot → Answer A → A × Spot
read_or a s (Ok read) = read
read_or a s (Err fault) = (a, s)

pub same_value : {A : Type 0} (a b : A) (s t : Spot) → answer a s ≡ answer b t → a ≡ b
unfolding read_or
same_value {A = A} a b s t e = ap (λ (r : Answer A). (read_or a s r).0) e

pub same_spot : {A : Type 0} (a b : A) (s t : Spot) → answer a s ≡ answer b t → s ≡ t
unfolding read_or
same_spot {A = A} a b s t e = ap (λ (r : Answer A). (read_or a s r).1) e

abbrev pub failed : (A : Type 0) → PartFault → Answer A
failed A fault = Err fault

-- a first step that was read, and the step after it
pub record Reached {A B : Type 0} (r : Answer A) (f : A → Read B) (b : B) (t : Spot) : Type 0 where
  pub first : A
  pub mid : Spot
  pub was : r ≡ answer first mid
  pub next : f first mid ≡ answer b t

pub reached : {A B : Type 0} (r : Answer A) (f : A → Read B) (b : B) (t : Spot) → after r f ≡ answer b t → Reached r f b t
reached (Ok read) f b t e = record { first = read.0; mid = read.1; was = refl; next = e }
reached {B = B} (Err fault) f b t e = absurd (let no : failed B fault ≡ answer b t = e in cc)

-- ---- bytes that are at a place

module _ (bytes : List ℕ) where
  pub stands_join : (at next : ℕ) (xs ys : List ℕ) → next ≡ at + length xs → Stands bytes at xs → Stands bytes next ys → Stands bytes at (xs ++ ys)
  stands_join at next xs ys e s t =
      let size : length (s.front ++ xs) ≡ next = length-append s.front xs ∙ (ap (λ (n : ℕ). n + length xs) s.where_ ∙ sym e) in
      let here : bytes ≡ (s.front ++ xs) ++ s.rest = s.is ∙ sym (append_assoc s.front xs s.rest) in
      let rest : s.rest ≡ ys ++ t.rest = sym (drop_at (s.front ++ xs) s.rest next size) ∙ (ap (drop next) (sym here ∙ t.is) ∙ drop_at t.front (ys ++ t.rest) next t.where_) in
      record {
        front = s.front;
        rest = t.rest;
        is = s.is ∙ ap (λ (zs : List ℕ). s.front ++ zs) (ap (λ (zs : List ℕ). xs ++ zs) rest ∙ sym (append_assoc xs ys t.rest));
        where_ = s.where_;
      }

  pub stands_within : (at : ℕ) (xs : List ℕ) → Stands bytes at xs → at + length xs ≤ length bytes
  stands_within at xs s =
      let size : length bytes ≡ length s.front + length (xs ++ s.rest) = ap (λ (zs : List ℕ). length zs) s.is ∙ length-append s.front (xs ++ s.rest) in
      let all = length-append xs s.rest in
      let start = s.where_ in
      omega (arith, size, all, start)

  stands_small : (at : ℕ) (xs : List ℕ) → Stands bytes at xs → IsBytes bytes → IsBytes xs
  stands_small at xs s small = λ k. elim (cases_lt k (length xs)) [
    | inl l ↦
        let there : slice_index bytes (length s.front + k) ≡ slice_index xs k =
        ap (λ (zs : List ℕ). slice_index zs (length s.front + k)) s.is ∙ (get_or-append-add s.front (xs ++ s.rest) k 0 ∙ get_or_append_left xs s.rest 0 k l) in
        let low = small (length s.front + k) in
        omega (arith, there, low)
    | inr l ↦ let past : slice_index xs k ≡ 0 = get_or_past xs k 0 l in omega (arith, past)
  ]

abbrev pub counts_of : Spot → Counts
counts_of s = record { met = s.met; known = s.known }

module _ (texts : Texts) (bytes : List ℕ) where
  -- between two spots these bytes were read, and these objects and texts referred to
  pub record Ate (xs ns : List ℕ) (us : List (List ℕ)) (s t : Spot) : Type 0 where
    pub stands : s.at ≤ length bytes → Stands bytes s.at xs
    pub end : t.at ≡ s.at + length xs
    pub goes : Goes texts (counts_of s) ns us (counts_of t)
    pub most : t.most ≡ s.most
    pub within : s.met ≤ s.most → t.met ≤ s.most
    pub there : AreThere texts s.known → AreThere texts t.known

  pub ate_to : (xs ns : List ℕ) (us : List (List ℕ)) (s t : Spot) → Ate xs ns us s t → s.at ≤ length bytes → t.at ≤ length bytes
  ate_to xs ns us s t a l = let e = a.end in let w = stands_within bytes s.at xs (a.stands l) in omega (arith, e, w)

  pub ate_then : (xs ys ms ns : List ℕ) (us vs : List (List ℕ)) (s u t : Spot) → Ate xs ms us s u → Ate ys ns vs u t → Ate (xs ++ ys) (ms ++ ns) (us ++ vs) s t
  ate_then xs ys ms ns us vs s u t a b = record {
    stands = λ l. stands_join bytes s.at u.at xs ys a.end (a.stands l) (b.stands (ate_to xs ms us s u a l));
    end = let e = a.end in let f = b.end in let size = length-append xs ys in omega (arith, e, f, size);
    goes = goes_join texts ms ns us vs (counts_of s) (counts_of u) (counts_of t) a.goes b.goes;
    most = b.most ∙ a.most;
    within = λ l. let one = a.within l in let e = a.most in let two = b.within (omega (arith, one, e)) in omega (arith, two, e);
    there = λ h. b.there (a.there h);
  }

  pub ate_none : (s t : Spot) → s ≡ t → Ate [] [] [] s t
  ate_none s t e = record {
    stands = λ l. record { front = take s.at bytes; rest = drop s.at bytes; is = sym (take-append-drop s.at bytes); where_ = length-take-le s.at bytes l };
    end = let f : s.at ≡ t.at = ap (λ (u : Spot). u.at) e in omega (arith, f);
    goes = goes_none texts (counts_of s) (counts_of t) (ap counts_of e);
    most = ap (λ (u : Spot). u.most) (sym e);
    within = λ l. subst (λ (u : Spot). u.met ≤ s.most) e l;
    there = λ h. subst (λ (u : Spot). AreThere texts u.known) e h;
  }

  -- other words for the same bytes, references and texts, and for the same end
  pub ate_as : (xs ys ms ns : List ℕ) (us vs : List (List ℕ)) (s u t : Spot) → xs ≡ ys → ms ≡ ns → us ≡ vs → u ≡ t → Ate xs ms us s u → Ate ys ns vs s t
  ate_as xs ys ms ns us vs s u t e f k g a =
      subst (λ (v : Spot). Ate ys ns vs s v) g (subst (λ (ts : List (List ℕ)). Ate ys ns ts s u) k (subst (λ (ks : List ℕ). Ate ys ks us s u) f (subst (λ (zs : List ℕ). Ate zs ms us s u) e a)))

  -- the same with other words for the bytes and the end alone
  pub ate_is : (xs ys ns : List ℕ) (us : List (List ℕ)) (s u t : Spot) → xs ≡ ys → u ≡ t → Ate xs ns us s u → Ate ys ns us s t
  ate_is xs ys ns us s u t e g a = ate_as xs ys ns ns us us s u t e refl refl g a

  -- ---- bytes

  pub record Took (n : ℕ) (xs : List ℕ) (s t : Spot) : Type 0 where
    pub size : length xs ≡ n
    pub stands : Stands bytes s.at xs
    pub ate : Ate xs [] [] s t

  pub took : (n : ℕ) (s t : Spot) (xs : List ℕ) → taken bytes n s ≡ answer xs t → Took n xs s t
  unfolding taken
  took n s t xs e = elim (cases_Bool (nat_le (s.at + n) (length bytes))) [
    | inl l ↦
        let room : s.at + n ≤ length bytes = leb-true (s.at + n) (length bytes) l in
        let k : ℕ = s.at + n - s.at in
        let u : Spot = record s { at = s.at + n } in
        let is : answer (slice_range bytes s.at (s.at + n)) u ≡ answer xs t = rw l at e in
        let got : take k (drop s.at bytes) ≡ xs = same_value (slice_range bytes s.at (s.at + n)) xs u t is in
        let there : u ≡ t = same_spot (slice_range bytes s.at (s.at + n)) xs u t is in
        let left : length (drop s.at bytes) ≡ length bytes - s.at = length-drop s.at bytes in
        let fits : k ≤ length (drop s.at bytes) = omega (arith, left, room) in
        let long : length xs ≡ k = ap (λ (zs : List ℕ). length zs) (sym got) ∙ length-take-le k (drop s.at bytes) fits in
        let size : length xs ≡ n = omega (arith, long) in
        let stands : Stands bytes s.at xs = record {
          front = take s.at bytes;
          rest = drop k (drop s.at bytes);
          is = sym (take-append-drop s.at bytes)
              ∙ ap (λ (zs : List ℕ). take s.at bytes ++ zs) (sym (take-append-drop k (drop s.at bytes)) ∙ ap (λ (zs : List ℕ). zs ++ drop k (drop s.at bytes)) got);
          where_ = length-take-le s.at bytes (omega (arith, room));
        } in
        let far : s.at + n ≡ t.at = ap (λ (v : Spot). v.at) there in
        record {
          size = size;
          stands = stands;
          ate = record {
            stands = λ l. stands;
            end = omega (arith, far, size);
            goes = goes_none texts (counts_of s) (counts_of t) (ap counts_of there);
            most = ap (λ (v : Spot). v.most) (sym there);
            within = λ l. subst (λ (v : Spot). v.met ≤ s.most) there l;
            there = λ h. subst (λ (v : Spot). AreThere texts v.known) there h;
          };
        }
    | inr f ↦ absurd (let no : failed (List ℕ) Cut ≡ answer xs t = rw f at e in cc)
  ]

  one_of : (xs : List ℕ) → length xs ≡ 1 → xs ≡ slice_index xs 0 ∷ []
  one_of [] e = absurd (omega (arith, e))
  one_of (x ∷ []) e = refl
  one_of (x ∷ y ∷ ys) e = absurd (omega (arith, e))

  pub byte_found : (s t : Spot) (b : ℕ) → byte bytes s ≡ answer b t → Ate (b ∷ []) [] [] s t
  unfolding byte
  byte_found s t b e =
      let r = reached (taken bytes 1 s) (λ xs. pure (slice_index xs 0)) b t e in
      let a = took 1 s r.mid r.first r.was in
      let same : slice_index r.first 0 ≡ b = same_value (slice_index r.first 0) b r.mid t r.next in
      ate_is r.first (b ∷ []) [] [] s r.mid t (one_of r.first a.size ∙ ap (λ (c : ℕ). c ∷ []) same) (same_spot (slice_index r.first 0) b r.mid t r.next) a.ate

-- in version 1 texts have no numbers
uses_any : (bytes xs ns : List ℕ) (us vs : List (List ℕ)) (s t : Spot) → Ate InPlace bytes xs ns us s t → Ate InPlace bytes xs ns vs s t
uses_any bytes xs ns us vs s t a = record {
  stands = a.stands;
  end = a.end;
  goes = record { refs = a.goes.refs; known = a.goes.known };
  most = a.most;
  within = a.within;
  there = a.there;
}

module _ (texts : Texts) (bytes : List ℕ) (small : IsBytes bytes) where
  record Number (n : ℕ) (xs : List ℕ) : Type 0 where
    pub low : big_number n xs < 256 ^ n
    pub back : big_bytes n (big_number n xs) ≡ xs

  number_in : (n : ℕ) (s t : Spot) (xs : List ℕ) → Took texts bytes n xs s t → Number n xs
  number_in n s t xs a = let few = stands_small bytes s.at xs a.stands small in record { low = big_from-lt 0 n xs few; back = bytes_back n xs a.size few }

  pub four_found : (s t : Spot) (n : ℕ) → four bytes s ≡ answer n t → (n < 2 ^ 32) × Ate texts bytes (four_bytes n) [] [] s t
  unfolding four four_bytes
  four_found s t n e =
      let r = reached (taken bytes 4 s) (λ xs. pure (big_number 4 xs)) n t e in
      let a = took texts bytes 4 s r.mid r.first r.was in
      let m = number_in 4 s r.mid r.first a in
      let same : big_number 4 r.first ≡ n = same_value (big_number 4 r.first) n r.mid t r.next in (
        subst (λ (k : ℕ). k < 2 ^ 32) same m.low,
        ate_is texts bytes r.first (big_bytes 4 n) [] [] s r.mid t (sym m.back ∙ ap (big_bytes 4) same) (same_spot (big_number 4 r.first) n r.mid t r.next) a.ate,
      )

  pub sixteen_found : (s t : Spot) (z : ℤ) → sixteen bytes s ≡ answer z t → FitsSigned w128 z × Ate texts bytes (sixteen_bytes z) [] [] s t
  unfolding sixteen sixteen_bytes
  sixteen_found s t z e =
      let r = reached (taken bytes 16 s) (λ xs. pure (cast_signed w128 (big_number 16 xs))) z t e in
      let a = took texts bytes 16 s r.mid r.first r.was in
      let m = number_in 16 s r.mid r.first a in
      let x : ℕ = big_number 16 r.first in
      let same : cast_signed w128 x ≡ z = same_value (cast_signed w128 x) z r.mid t r.next in
      let back : cast_unsigned w128 z ≡ x = ap (cast_unsigned w128) (sym same) ∙ of_z-to_z w128 x m.low in (
        subst (λ (y : ℤ). FitsSigned w128 y) same (sfits_to_z {w = w128} {n = x} (record { fits = m.low })),
        ate_is texts bytes r.first (big_bytes 16 (cast_unsigned w128 z)) [] [] s r.mid t (sym m.back ∙ ap (big_bytes 16) (sym back)) (same_spot (cast_signed w128 x) z r.mid t r.next) a.ate,
      )

module _ (bytes : List ℕ) (small : IsBytes bytes) where
  spelled_found : (s t : Spot) (x : List ℕ) → spelled_text bytes s ≡ answer x t → IsText x × Ate InPlace bytes (text_bytes x) [] [] s t
  unfolding spelled_text
  spelled_found s t x e =
      let p = reached (four bytes s) (λ n u. after (taken bytes n u) (λ xs. as_text s.at xs)) x t e in
      let n = four_found InPlace bytes small s p.mid p.first p.was in
      let q = reached (taken bytes p.first p.mid) (λ xs. as_text s.at xs) x t p.next in
      let a = took InPlace bytes p.first p.mid q.mid q.first q.was in
      elim (cases_Bool (is_utf8 q.first)) [
        | inl l ↦
            let is : answer q.first q.mid ≡ answer x t = rw l at q.next in
            let same : q.first ≡ x = same_value q.first x q.mid t is in
            let size : p.first ≡ length x = sym a.size ∙ ap (λ (zs : List ℕ). length zs) same in
            let few : length x < 2 ^ 32 = subst (λ (k : ℕ). k < 2 ^ 32) size n.0 in
            let spelled : four_bytes p.first ++ q.first ≡ text_bytes x = ap (λ (k : ℕ). four_bytes k ++ q.first) size ∙ ap (λ (zs : List ℕ). four_bytes (length x) ++ zs) same in (
              (subst (λ (zs : List ℕ). is_utf8 zs ≡ true) same l, few),
              ate_is InPlace bytes (four_bytes p.first ++ q.first) (text_bytes x) [] [] s q.mid t spelled (same_spot q.first x q.mid t is)
                  (ate_then InPlace bytes (four_bytes p.first) q.first [] [] [] [] s p.mid q.mid n.1 a.ate),
            )
        | inr f ↦ absurd (let no : failed (List ℕ) (BadText s.at) ≡ answer x t = rw f at q.next in cc)
      ]

  -- a text of the table, that was referred to or is the next one
  record FoundThere (table : List (List ℕ)) (n : ℕ) (x : List ℕ) (u t : Spot) : Type 0 where
    pub here : slice_get table n ≡ Some x
    pub to : (let v : Spot = record u { known = known_after u.known n } in v) ≡ t

  there_found : (table : List (List ℕ)) (at n : ℕ) (o : Option (List ℕ)) (x : List ℕ) (u t : Spot) → slice_get table n ≡ o → text_there at n o u ≡ answer x t → FoundThere table n x u t
  there_found table at n (Some y) x u t was h =
      let v : Spot = record u { known = known_after u.known n } in
      record { here = was ∙ ap (λ (z : List ℕ). Some z) (same_value y x v t h); to = same_spot y x v t h }
  there_found table at n None x u t was h = absurd (let no : failed (List ℕ) (BadRef at) ≡ answer x t = h in cc)

  after_within : (known n size : ℕ) → known ≤ size → n < size → known_after known n ≤ size
  after_within known n size l k = elim (cases_Bool (n == known)) [
    | inl e ↦ rw e (omega (arith, k))
    | inr f ↦ rw f l
  ]

  one_known : (table : List (List ℕ)) (ok : AreListed table) (n : ℕ) (x : List ℕ) (u t : Spot) → n ≤ u.known → FoundThere table n x u t → Ate (Numbered table) bytes [] [] (x ∷ []) u t
  one_known table ok n x u t old f =
      let v : Spot = record u { known = known_after u.known n } in
      let at : number_of table x ≡ n = placed table n x ok f.here in
      let next : counted u.known (number_of table x ∷ []) ≡ Some (known_after u.known n) = ap (λ (k : ℕ). counted u.known (k ∷ [])) at ∙ counted_next u.known n old in
      record {
        stands = λ l. (ate_none (Numbered table) bytes u u refl).stands l;
        end = let e : u.at ≡ t.at = ap (λ (w : Spot). w.at) f.to in omega (arith, e);
        goes = record { refs = ap (λ (w : Spot). Some w.met) f.to; known = next ∙ ap (λ (w : Spot). Some w.known) f.to };
        most = ap (λ (w : Spot). w.most) (sym f.to);
        within = λ l. subst (λ (w : Spot). w.met ≤ u.most) f.to l;
        there = λ h. subst (λ (w : Spot). w.known ≤ length table) f.to (after_within u.known n (length table) h (slice_get_within table n x f.here));
      }

  numbered_found : (table : List (List ℕ)) (ok : AreListed table) (s t : Spot) (x : List ℕ) → text_by_number bytes table s ≡ answer x t → IsText x × Ate (Numbered table) bytes (by_number table x) [] (x ∷ []) s t
  unfolding text_by_number
  numbered_found table ok s t x e =
      let p = reached (four bytes s) (λ n. numbered_text table s.at n) x t e in
      let n = four_found (Numbered table) bytes small s p.mid p.first p.was in
      elim (cases_Bool (nat_le p.first p.mid.known)) [
        | inl l ↦
            let there : text_there s.at p.first (slice_get table p.first) p.mid ≡ answer x t = rw l at p.next in
            let f = there_found table s.at p.first (slice_get table p.first) x p.mid t refl there in
            let at : p.first ≡ number_of table x = sym (placed table p.first x ok f.here) in (
              text_at table p.first x ok.texts f.here,
              ate_is (Numbered table) bytes (four_bytes p.first ++ []) (by_number table x) [] (x ∷ []) s t t (append-nil (four_bytes p.first) ∙ ap four_bytes at) refl
                  (ate_then (Numbered table) bytes (four_bytes p.first) [] [] [] [] (x ∷ []) s p.mid t n.1 (one_known table ok p.first x p.mid t (leb-true p.first p.mid.known l) f)),
            )
        | inr f ↦ absurd (let no : failed (List ℕ) (BadRef s.at) ≡ answer x t = rw f at p.next in cc)
      ]

  pub text_found : (texts : Texts) (ok : IsTable texts) (s t : Spot) (x : List ℕ) → text texts bytes s ≡ answer x t → IsText x × Ate texts bytes (spell_of texts x) [] (x ∷ []) s t
  unfolding text
  text_found InPlace ok s t x e = let f = spelled_found s t x e in (f.0, uses_any bytes (text_bytes x) [] [] (x ∷ []) s t f.1)
  text_found (Numbered table) ok s t x e = numbered_found table ok s t x e

-- ---- n items of one kind

module _ (texts : Texts) (bytes : List ℕ) {A : Type 0} (step : List A → Read A) (spelled : A → List ℕ) (refs : A → List ℕ) (uses : A → List (List ℕ)) (Good : List A → A → Type 0)
    (one : (before : List A) (s t : Spot) (a : A) → step before s ≡ answer a t → Good before a × Ate texts bytes (spelled a) (refs a) (uses a) s t) where
  pub record Many (n : ℕ) (before all : List A) (s t : Spot) : Type 0 where
    pub xs : List A
    pub size : length xs ≡ n
    pub is : all ≡ before ++ xs
    pub good : AllGood Good before xs
    pub ate : Ate texts bytes (flat_map spelled xs) (flat_map refs xs) (flat_map uses xs) s t

  pub many_found : (n : ℕ) (before all : List A) (s t : Spot) → more step n before s ≡ answer all t → Many n before all s t
  many_found zero before all s t e = record {
    xs = [];
    size = refl;
    is = sym (same_value before all s t e) ∙ sym (append-nil before);
    good = tt;
    ate = ate_none texts bytes s t (same_spot before all s t e);
  }
  many_found (suc n) before all s t e =
      let r = reached (step before s) (λ a. more step n (before ++ a ∷ [])) all t e in
      let first = one before s r.mid r.first r.was in
      let rest = many_found n (before ++ r.first ∷ []) all r.mid t r.next in
      record {
        xs = r.first ∷ rest.xs;
        size = let k = rest.size in omega (arith, k);
        is = rest.is ∙ append_assoc before (r.first ∷ []) rest.xs;
        good = (first.0, rest.good);
        ate = ate_then texts bytes (spelled r.first) (flat_map spelled rest.xs) (refs r.first) (flat_map refs rest.xs) (uses r.first) (flat_map uses rest.xs) s r.mid t first.1 rest.ate;
      }
