-- A part that was read is the one whose text the bytes begin with.
use Rattle.std.proofs.Common.{◌≡◌, ℕ, ◌<◌, ◌≤◌, ◌^◌, ◌==◌, ◌&&◌, cond, List, [], ◌∷◌, ◌++◌, length, take, Option, Some, Result, Ok, Err, refl, sym, ap, ◌∙◌, subst, inl, inr, arith, All}
use Rattle.std.specs.Prelude.{slice_index}
use Rattle.std.specs.List.{flat_map, AllByRecursion}
use Rattle.std.proofs.lemmas.Bool.{cases_Bool, cases_lt, and_parts, eqb-false}
use Rattle.std.proofs.lemmas.List.{append_assoc, length-append, nil_from_length, get_or_past, take_at}
use Rattle.std.proofs.lemmas.List.Elements.{All-get_or}
use Rattle.py_names.specs.Names.{is_variable}
use Rattle.py_value.specs.declared.value.Value.{Value}
use Rattle.py_heap.specs.References.{value_refs}
use Rattle.py_heap.specs.Reaching.{held_refs}
use Rattle.part_bytes.specs.declared.part.PartValue.{PartValue}
use Rattle.part_bytes.specs.Texts.{four as four_bytes, name_bytes, spelled_held, spelled_object, spelled_part, bytes_of}
use Rattle.part_bytes.specs.Uses.{held_texts, object_texts, texts_of}
use Rattle.checkpoint_reader.specs.declared.forms.Texts.{Texts}
use Rattle.checkpoint_reader.specs.declared.forms.Texts.TheVariants.{InPlace}
use Rattle.checkpoint_reader.specs.declared.part_fault.PartFault.{PartFault}
use Rattle.checkpoint_reader.specs.declared.part_fault.PartFault.TheVariants.{BadName}
use Rattle.checkpoint_reader.specs.declared.spot.Spot.{Spot}
use Rattle.checkpoint_reader.specs.PartReads.{Answer, Read, pure, fail, after, more}
use Rattle.checkpoint_reader.specs.PartReading.{taken, byte, four, follows, name_of, name, names, held, values, objects, part, part_read, with_size, part_read2, with_known, start}
use Rattle.checkpoint_laws.proofs.Counts.{spell_of, numbers_of, numbers_join, counted_join, AreThere, Counts, Goes}
use Rattle.checkpoint_laws.proofs.Listed.{IsTable}
use Rattle.checkpoint_laws.specs.SpelledParts.{counted, IsHeld, AreNames, HasPartText}
use Rattle.checkpoint_laws.proofs.Numbers.{IsBytes}
use Rattle.checkpoint_laws.proofs.Offs.{answer, Stands, AllGood}
use Rattle.checkpoint_laws.proofs.WholeParts.{GoodName, no_refs, none_refs, no_texts, none_texts}
use Rattle.checkpoint_laws.proofs.Found.{same_value, same_spot, failed, reached, stands_join, Ate, ate_to, ate_then, ate_as, ate_is, took, byte_found, four_found, many_found}
use Rattle.checkpoint_laws.proofs.FoundValues.{held_found, held_good}
use Rattle.checkpoint_laws.proofs.FoundObjects.{objects_found}

names_good : (before ns : List (List ℕ)) → AllGood GoodName before ns → AreNames before ns
names_good before [] h = tt
names_good before (n ∷ ns) h = (h.0.0, h.0.1, names_good (before ++ n ∷ []) ns h.1)

-- an answer that was read, from its size and from how many texts are known
record Sized (r : Answer PartValue) (p : PartValue) (n known : ℕ) : Type 0 where
  pub end : Spot
  pub was : r ≡ answer p end
  pub at : end.at ≡ n
  pub to : end.known ≡ known

size_or : ℕ → Result (PartValue × ℕ × ℕ) PartFault → ℕ
size_or n (Ok read) = read.1
size_or n (Err fault) = n

known_or : ℕ → Result (PartValue × ℕ × ℕ) PartFault → ℕ
known_or n (Ok read) = read.2
known_or n (Err fault) = n

part_or : PartValue → Result (PartValue × ℕ × ℕ) PartFault → PartValue
part_or p (Ok read) = read.0
part_or p (Err fault) = p

sized : (r : Answer PartValue) (p : PartValue) (n known : ℕ) → with_known r ≡ Ok (p, n, known) → Sized r p n known
unfolding size_or part_or known_or
sized (Ok read) p n known e = record { end = read.1; was = ap (λ (q : PartValue). answer q read.1) (ap (part_or p) e); at = ap (size_or n) e; to = ap (known_or known) e }
sized (Err fault) p n known e = absurd (let no : with_known (Err fault) ≡ Ok (p, n, known) = e in cc)

-- in version 1 no texts are known
known_of : Answer PartValue → ℕ
known_of (Ok read) = read.1.known
known_of (Err fault) = 0

with_third : ℕ → Result (PartValue × ℕ) PartFault → Result (PartValue × ℕ × ℕ) PartFault
with_third known (Ok read) = Ok (read.0, read.1, known)
with_third known (Err fault) = Err fault

both_ways : (r : Answer PartValue) (p : PartValue) (n : ℕ) → with_size r ≡ Ok (p, n) → with_known r ≡ Ok (p, n, known_of r)
unfolding known_of with_third
both_ways (Ok read) p n e = ap (λ (q : Result (PartValue × ℕ) PartFault). with_third read.1.known q) e
both_ways (Err fault) p n e = absurd (let no : with_size (Err fault) ≡ Ok (p, n) = e in cc)

module _ (texts : Texts) (ok : IsTable texts) (bytes : List ℕ) (small : IsBytes bytes) where
  name_found : (before : List (List ℕ)) (s t : Spot) (x : List ℕ) → name bytes before s ≡ answer x t → GoodName before x × Ate texts bytes (name_bytes x) [] [] s t
  unfolding name
  name_found before s t x h =
      let r = reached (byte bytes s) (λ n u. after (taken bytes n u) (λ xs. name_of s.at before xs)) x t h in
      let q = reached (taken bytes r.first r.mid) (λ xs. name_of s.at before xs) x t r.next in
      let a = took texts bytes r.first r.mid q.mid q.first q.was in
      elim (cases_Bool (is_variable q.first && follows before q.first)) [
        | inl e ↦
            let parts = and_parts (is_variable q.first) (follows before q.first) e in
            let is : answer q.first q.mid ≡ answer x t = rw e at q.next in
            let same : q.first ≡ x = same_value q.first x q.mid t is in
            let whole : Ate texts bytes (name_bytes q.first) [] [] s t = ate_is texts bytes (r.first ∷ q.first) (name_bytes q.first) [] [] s q.mid t (ap (λ (k : ℕ). k ∷ q.first) (sym a.size)) (same_spot q.first x q.mid t is)
            (ate_then texts bytes (r.first ∷ []) q.first [] [] [] [] s r.mid q.mid (byte_found texts bytes s r.mid r.first r.was) a.ate) in
            subst (λ (y : List ℕ). GoodName before y × Ate texts bytes (name_bytes y) [] [] s t) same (parts, whole)
        | inr f ↦ absurd (let no : failed (List ℕ) (BadName s.at) ≡ answer x t = rw f at q.next in cc)
      ]

  abbrev names_of : List (List ℕ) → List ℕ
  names_of ns = four_bytes (length ns) ++ flat_map name_bytes ns

  record NamesRead (ns : List (List ℕ)) (s t : Spot) : Type 0 where
    pub some : 0 < length ns
    pub few : length ns < 2 ^ 32
    pub good : AreNames [] ns
    pub ate : Ate texts bytes (names_of ns) [] [] s t

  abbrev if_some : ℕ → ℕ → Read (List (List ℕ))
  if_some p n = cond (n == 0) (fail (BadName p)) (more (name bytes) n [])

  names_found : (s t : Spot) (ns : List (List ℕ)) → names bytes s ≡ answer ns t → NamesRead ns s t
  unfolding names
  names_found s t ns h =
      let r = reached (four bytes s) (λ n. if_some s.at n) ns t h in
      let n = four_found texts bytes small s r.mid r.first r.was in
      elim (cases_Bool (r.first == 0)) [
        | inl e ↦ absurd (let no : failed (List (List ℕ)) (BadName s.at) ≡ answer ns t = rw e at r.next in cc)
        | inr e ↦
            let rest : more (name bytes) r.first [] r.mid ≡ answer ns t = rw e at r.next in
            let m = many_found texts bytes (name bytes) name_bytes no_refs no_texts GoodName (λ before u v x k. name_found before u v x k) r.first [] ns r.mid t rest in
            let size : r.first ≡ length ns = sym m.size ∙ ap (λ (xs : List (List ℕ)). length xs) (sym m.is) in
            let other = eqb-false r.first 0 e in
            let xs : List ℕ = four_bytes r.first ++ flat_map name_bytes m.xs in
            let ate : Ate texts bytes xs [] [] s t = ate_as texts bytes xs xs (flat_map no_refs m.xs) [] (flat_map no_texts m.xs) [] s t t refl (none_refs m.xs) (none_texts m.xs) refl
            (ate_then texts bytes (four_bytes r.first) (flat_map name_bytes m.xs) [] (flat_map no_refs m.xs) [] (flat_map no_texts m.xs) s r.mid t n.1 m.ate) in
            let spelled : xs ≡ names_of ns = ap (λ (k : ℕ). four_bytes k ++ flat_map name_bytes m.xs) size ∙ ap (λ (ys : List (List ℕ)). four_bytes (length ns) ++ flat_map name_bytes ys) (sym m.is) in
            record {
              some = grind (arith, other, size);
              few = subst (λ (k : ℕ). k < 2 ^ 32) size n.0;
              good = subst (λ (ys : List (List ℕ)). AreNames [] ys) (sym m.is) (names_good [] m.xs m.good);
              ate = ate_is texts bytes xs (names_of ns) [] [] s t t spelled refl ate;
            }
      ]

  record ValuesRead (n : ℕ) (vs : List (Option Value)) (s t : Spot) : Type 0 where
    pub size : length vs ≡ n
    pub good : AllByRecursion (IsHeld (n == 1)) vs
    pub ate : Ate texts bytes (flat_map (spelled_held (spell_of texts)) vs) (flat_map (held_refs value_refs) vs) (flat_map held_texts vs) s t

  values_found : (n : ℕ) (s t : Spot) (vs : List (Option Value)) → values texts bytes n s ≡ answer vs t → ValuesRead n vs s t
  unfolding values
  values_found n s t vs h =
      let m = many_found texts bytes (λ before. held texts bytes (n == 1)) (spelled_held (spell_of texts)) (held_refs value_refs) held_texts (λ before o. IsHeld (n == 1) o)
      (λ before u v o k. held_found texts ok bytes small (n == 1) u v o k) n [] vs s t h in
      subst (λ (xs : List (Option Value)). ValuesRead n xs s t) (sym m.is) (record { size = m.size; good = held_good (n == 1) [] m.xs m.good; ate = m.ate })

  pub record PartRead (p : PartValue) (known : ℕ) (t : Spot) : Type 0 where
    pub is : HasPartText p
    pub stands : Stands bytes 0 (spelled_part (spell_of texts) p)
    pub size : t.at ≡ length (spelled_part (spell_of texts) p)
    pub known_to : counted known (numbers_of texts (texts_of p)) ≡ Some t.known
    pub there : AreThere texts known → AreThere texts t.known

  pub part_found : (p : PartValue) (known : ℕ) (t : Spot) → part texts bytes (start known) ≡ answer p t → PartRead p known t
  unfolding part
  part_found p known t h =
      let last : List (List ℕ) → List (Option Value) → Read PartValue = λ ns vs u. after (objects texts bytes u) (λ os. let whole : PartValue = record { names = ns; values = vs; objects = os } in pure whole) in
      let middle : List (List ℕ) → Read PartValue = λ ns u. after (values texts bytes (length ns) u) (λ vs. last ns vs) in
      let first_ : Spot = start known in
      let r = reached (names bytes first_) middle p t h in
      let q = reached (values texts bytes (length r.first) r.mid) (λ vs. last r.first vs) p t r.next in
      let o = reached (objects texts bytes q.mid) (λ os. let whole : PartValue = record { names = r.first; values = q.first; objects = os } in pure whole) p t q.next in
      let read : PartValue = record { names = r.first; values = q.first; objects = o.first } in
      let same : read ≡ p = same_value read p o.mid t o.next in
      let there : o.mid ≡ t = same_spot read p o.mid t o.next in
      let a = names_found first_ r.mid r.first r.was in
      let b = values_found (length r.first) r.mid q.mid q.first q.was in
      let c = objects_found texts ok bytes small o.first q.mid o.mid o.was in
      let xs : List ℕ = names_of r.first in
      let ys : List ℕ = flat_map (spelled_held (spell_of texts)) q.first in
      let zs : List ℕ = four_bytes (length o.first) ++ flat_map (spelled_object (spell_of texts)) o.first in
      let refs : List ℕ = flat_map (held_refs value_refs) q.first in
      let used : List (List ℕ) = flat_map held_texts q.first in
      let front : Ate texts bytes (xs ++ ys) refs used first_ q.mid = ate_then texts bytes xs ys [] refs [] used first_ r.mid q.mid a.ate b.ate in
      let none : 0 ≤ length bytes = omega arith in
      let here : q.mid.at ≤ length bytes = ate_to texts bytes (xs ++ ys) refs used first_ q.mid front none in
      let stands : Stands bytes 0 ((xs ++ ys) ++ zs) = stands_join bytes 0 q.mid.at (xs ++ ys) zs front.end (front.stands none) (c.stands here) in
      let spelled : (xs ++ ys) ++ zs ≡ spelled_part (spell_of texts) read = sym (append_assoc (xs ++ ys) (four_bytes (length o.first)) (flat_map (spelled_object (spell_of texts)) o.first)) in
      let end : o.mid.at ≡ length ((xs ++ ys) ++ zs) = let one = front.end in let two = c.end in let all = length-append (xs ++ ys) zs in omega (arith, one, two, all) in
      let known_ : counted known (numbers_of texts (texts_of read)) ≡ Some o.mid.known =
      ap (λ (ns : List ℕ). counted known ns) (numbers_join texts used (flat_map object_texts o.first))
      ∙ counted_join (numbers_of texts used) (numbers_of texts (flat_map object_texts o.first)) known q.mid.known (Some o.mid.known) front.goes.known c.known in
      let is : HasPartText read = record {
        some = a.some;
        few = a.few;
        names = a.good;
        as_many = b.size;
        values = b.good;
        few_objects = c.few;
        met = q.mid.met;
        refs = front.goes.refs;
        within = c.within;
        objects = c.good;
      } in
      let found : PartRead read known o.mid = record {
        is = is;
        stands = subst (λ (ws : List ℕ). Stands bytes 0 ws) spelled stands;
        size = end ∙ ap (λ (ws : List ℕ). length ws) spelled;
        known_to = known_;
        there = λ h. c.there (front.there h);
      } in
      subst (λ (v : Spot). PartRead p known v) there (subst (λ (w : PartValue). PartRead w known o.mid) same found)

  -- what was read of a part of a checkpoint is spelled at the front of the bytes
  pub record PartThere (p : PartValue) (n known next : ℕ) : Type 0 where
    pub is : HasPartText p
    pub rest : List ℕ
    pub whole : bytes ≡ spelled_part (spell_of texts) p ++ rest
    pub size : n ≡ length (spelled_part (spell_of texts) p)
    pub known_to : counted known (numbers_of texts (texts_of p)) ≡ Some next
    pub there : AreThere texts known → AreThere texts next

  pub read_there : (p : PartValue) (n known next : ℕ) → part_read2 texts known bytes ≡ Ok (p, n, next) → PartThere p n known next
  unfolding part_read2
  read_there p n known next e =
      let r = sized (part texts bytes (start known)) p n next e in
      let f = part_found p known r.end r.was in
      let s = f.stands in
      let front : s.front ≡ [] = nil_from_length s.front s.where_ in
      record {
        is = f.is;
        rest = s.rest;
        whole = s.is ∙ ap (λ (xs : List ℕ). xs ++ (spelled_part (spell_of texts) p ++ s.rest)) front;
        size = sym r.at ∙ f.size;
        known_to = f.known_to ∙ ap (λ (k : ℕ). Some k) r.to;
        there = λ h. subst (AreThere texts) r.to (f.there h);
      }

bytes_small : (bytes : List ℕ) → All (λ b. b < 256) bytes → IsBytes bytes
bytes_small bytes h = λ k. elim (cases_lt k (length bytes)) [
  | inl l ↦ All-get_or (λ b. b < 256) bytes k 0 l h
  | inr l ↦ let past : slice_index bytes k ≡ 0 = get_or_past bytes k 0 l in omega (arith, past)
]

pub read_is_text : (bytes : List ℕ) (p : PartValue) (n : ℕ) → All (λ b. b < 256) bytes → part_read bytes ≡ Ok (p, n)
    → HasPartText p × (take n bytes ≡ bytes_of p) × (n ≡ length (bytes_of p))
unfolding part_read
read_is_text bytes p n h e =
    let r = sized (part InPlace bytes (start 0)) p n (known_of (part InPlace bytes (start 0))) (both_ways (part InPlace bytes (start 0)) p n e) in
    let f = part_found InPlace tt bytes (bytes_small bytes h) p 0 r.end r.was in
    let size : n ≡ length (bytes_of p) = sym r.at ∙ f.size in
    let s = f.stands in
    let front : s.front ≡ [] = nil_from_length s.front s.where_ in
    let whole : bytes ≡ bytes_of p ++ s.rest = s.is ∙ ap (λ (xs : List ℕ). xs ++ (bytes_of p ++ s.rest)) front in
    (f.is, ap (take n) whole ∙ take_at (bytes_of p) s.rest n (sym size), size)
