-- The table of texts that was read, and its bytes.
use Rattle.std.proofs.Common.{◌≡◌, ℕ, ◌+◌, ◌<◌, ◌^◌, ◌==◌, ◌&&◌, not, true, false, List, [], ◌∷◌, ◌++◌, length, Ok, Err, refl, sym, ap, ◌∙◌, subst, inl, inr, arith, All}
use Rattle.std.specs.Prelude.{◌⊎◌}
use Rattle.std.specs.List.{flat_map, AllByRecursion}
use Rattle.std.specs.Str.{is_utf8}
use Rattle.std.proofs.lemmas.Bool.{cases_Bool, and_parts, not-true}
use Rattle.std.proofs.lemmas.List.{append-nil, length-append}
use Rattle.std.proofs.lemmas.Grind.{flat_map-append}
use Rattle.part_bytes.specs.Plain.{IsText}
use Rattle.part_bytes.specs.Tables.{has_text}
use Rattle.part_bytes.specs.Texts.{four as four_bytes, text_bytes}
use Rattle.checkpoint_bytes.specs.Texts.{table_bytes}
use Rattle.checkpoint_reader.specs.declared.forms.Texts.{Texts}
use Rattle.checkpoint_reader.specs.declared.forms.Texts.TheVariants.{InPlace, Numbered}
use Rattle.checkpoint_reader.specs.declared.fields.Listed.{Listed}
use Rattle.checkpoint_reader.specs.declared.fields.Table.{Table}
use Rattle.checkpoint_reader.specs.declared.fault.CheckpointFault.TheVariants.{BadField}
use Rattle.checkpoint_reader.specs.Reads.{Read, pure, after, turns}
use Rattle.checkpoint_reader.specs.Fields.{listed_after, none_listed, no_table, table_of, four, taken, next_text, table}
use Rattle.checkpoint_laws.proofs.Listed.{AreNew, AreListed, listed_put}
use Rattle.checkpoint_laws.proofs.Eats.{answer, same_value, same_place, failed, reached, Ate, ate_none, ate_as, Eats, eats_then, eats_knowing, eats_end, eats_turns, AreBytes, eats_taken}
use Rattle.checkpoint_laws.proofs.Pieces.{eats_low_four}

-- the texts of a table, each with its place
abbrev pub ListedSo : ℕ → Listed → Type 0
ListedSo n listed = (length listed.texts ≡ n) × (length listed.places ≡ n) × AllByRecursion IsText listed.texts × AreNew [] listed.texts

-- the bytes of a table, and how it is read
pub record TableSo (ts : List (List ℕ)) (t : Table) (xs : List ℕ) : Type 0 where
  pub is : t.texts ≡ Numbered ts
  pub many : length t.places ≡ length ts
  pub ok : AreListed ts
  pub bytes : xs ≡ table_bytes ts

-- one text more was listed
record More (before now : Listed) (at : ℕ) (xs : List ℕ) (s t : ℕ) : Type 0 where
  pub to : s ≡ t
  pub is : now ≡ record { texts = before.texts ++ xs ∷ []; places = before.places ++ at ∷ [] }
  pub text : is_utf8 xs ≡ true
  pub new : has_text before.texts xs ≡ false

more_found : (at : ℕ) (before now : Listed) (xs : List ℕ) (s t : ℕ) → listed_after at before xs s ≡ answer now t → More before now at xs s t
more_found at before now xs s t e = elim (cases_Bool (is_utf8 xs && not (has_text before.texts xs))) [
  | inl y ↦
      let parts = and_parts (is_utf8 xs) (not (has_text before.texts xs)) y in
      let next : Listed = record { texts = before.texts ++ xs ∷ []; places = before.places ++ at ∷ [] } in
      let is : answer next s ≡ answer now t = rw y at e in
      record { to = same_place next now s t is; is = sym (same_value next now s t is); text = parts.0; new = not-true (has_text before.texts xs) parts.1 }
  | inr f ↦ absurd (let no : failed Listed (BadField at) ≡ answer now t = rw f at e in cc)
]

module _ (bytes : List ℕ) (small : All (λ b. b < 256) bytes) where
  abbrev texts_so : Listed → List ℕ
  texts_so listed = flat_map text_bytes listed.texts

  -- what a text adds
  abbrev Added : Listed → Listed → List ℕ → Type 0
  Added before now zs = (xs : List ℕ) × (place_ : ℕ) × (now ≡ record { texts = before.texts ++ xs ∷ []; places = before.places ++ place_ ∷ [] }) × IsText xs × (has_text before.texts xs ≡ false) × (zs ≡ text_bytes xs)

  eats_text : (before : Listed) → Eats bytes (next_text bytes before) (Added before)
  unfolding next_text
  eats_text before = λ at. eats_knowing bytes (four bytes) (λ n r. after (taken bytes at n r) (λ xs. listed_after at before xs)) four_bytes (λ n. n < 2 ^ 32) (Added before) (eats_low_four bytes small)
      (λ n low. eats_end bytes (taken bytes at n) (λ xs. listed_after at before xs) (AreBytes n) (λ now ys. Added before now (four_bytes n ++ ys)) (eats_taken bytes small at n)
      (λ xs now ys s t h e.
      let m = more_found at before now xs s t e in
      let size : length xs ≡ n = h.1 in
      let few : length xs < 2 ^ 32 = subst (λ (k : ℕ). k < 2 ^ 32) (sym size) low in
      let spelled : four_bytes n ++ ys ≡ text_bytes xs = ap (λ (k : ℕ). four_bytes k ++ ys) (sym size) ∙ ap (λ (zs : List ℕ). four_bytes (length xs) ++ zs) h.0 in
      (m.to, (xs, at, m.is, (m.text, few), m.new, spelled)))) at

  one_eaten : (n : ℕ) (before now : Listed) (at next : ℕ) → ListedSo n before → next_text bytes before at ≡ answer now next
      → ListedSo (n + 1) now × Ate bytes (λ xs. texts_so now ≡ texts_so before ++ xs) at next
  one_eaten n before now at next h e =
      let a = eats_text before at next now e in
      let xs : List ℕ = a.is.0 in
      let place_ : ℕ = a.is.1 in
      let last : Listed = record { texts = before.texts ++ xs ∷ []; places = before.places ++ place_ ∷ [] } in
      let is : now ≡ last = a.is.2 in
      let put = listed_put before.texts xs (h.2, h.3) a.is.3 a.is.4 in
      let good : ListedSo (n + 1) last = (
        length-append before.texts (xs ∷ []) ∙ ap (λ (k : ℕ). k + 1) h.0,
        length-append before.places (place_ ∷ []) ∙ ap (λ (k : ℕ). k + 1) h.1,
        put.0,
        put.1,
      ) in
      let spelled : texts_so now ≡ texts_so before ++ text_bytes xs =
      ap texts_so is ∙ (flat_map-append text_bytes before.texts (xs ∷ []) ∙ ap (λ (zs : List ℕ). texts_so before ++ zs) (append-nil (text_bytes xs))) in (
        subst (ListedSo (n + 1)) (sym is) good,
        record { xs = a.xs; is = spelled ∙ ap (λ (zs : List ℕ). texts_so before ++ zs) (sym a.is.5); left = a.left; end = a.end },
      )

  -- the table of version 2
  pub eats_table2 : Eats bytes (table bytes 2) (λ t xs. (ts : List (List ℕ)) × TableSo ts t xs)
  unfolding table
  eats_table2 = eats_knowing bytes (four bytes) (λ n r. after (turns (next_text bytes) n none_listed r) (λ listed. pure (table_of listed))) four_bytes (λ n. n < 2 ^ 32) (λ t xs. (ts : List (List ℕ)) × TableSo ts t xs)
      (eats_low_four bytes small) (λ n low at next t e.
      let r = reached (turns (next_text bytes) n none_listed at) (λ listed. pure (table_of listed)) t next e in
      let m = eats_turns bytes (next_text bytes) texts_so ListedSo one_eaten n 0 none_listed r.first at r.mid (refl, refl, tt, tt) r.was in
      let there : r.mid ≡ next = same_place (table_of r.first) t r.mid next r.next in
      let same : table_of r.first ≡ t = same_value (table_of r.first) t r.mid next r.next in
      let ts : List (List ℕ) = r.first.texts in
      let size : length ts ≡ n = let k = m.0.0 in omega (arith, k) in
      let places : length r.first.places ≡ length ts = let j = m.0.0 in let k = m.0.1 in omega (arith, j, k) in
      let ok : AreListed ts = record { few = subst (λ (k : ℕ). k < 2 ^ 32) (sym size) low; texts = m.0.2; new = m.0.3 } in
      let here : Ate bytes (λ ys. texts_so r.first ≡ ys) at next = subst (λ (k : ℕ). Ate bytes (λ ys. texts_so r.first ≡ ys) at k) there m.1 in
      ate_as bytes (λ ys. texts_so r.first ≡ ys) (λ ys. (us : List (List ℕ)) × TableSo us t (four_bytes n ++ ys)) at next
      (λ ys k. (
        ts,
        record {
          is = ap (λ (u : Table). u.texts) (sym same);
          many = ap (λ (u : Table). length u.places) (sym same) ∙ places;
          ok = ok;
          bytes = ap (λ (j : ℕ). four_bytes j ++ ys) (sym size) ∙ ap (λ (zs : List ℕ). four_bytes (length ts) ++ zs) (sym k);
        },
      )) here)

  -- in version 1 there is none
  pub eats_table1 : Eats bytes (table bytes 1) (λ t xs. (t ≡ no_table) × (xs ≡ []))
  unfolding table
  eats_table1 at next t e = ate_none bytes (λ xs. (t ≡ no_table) × (xs ≡ [])) at next (same_place no_table t at next e) (sym (same_value no_table t at next e), refl)
