-- The table of texts is read off its bytes.
use Rattle.std.proofs.Common.{◌≡◌, ℕ, ◌+◌, ◌<◌, List, [], ◌∷◌, ◌++◌, length, refl, sym, ap, ◌∙◌, arith, add-zero}
use Rattle.std.specs.Prelude.{false}
use Rattle.std.specs.List.{flat_map, AllByRecursion}
use Rattle.std.proofs.lemmas.List.{append-nil, append_assoc, length-append}
use Rattle.part_bytes.specs.Plain.{IsText}
use Rattle.part_bytes.specs.Tables.{has_text}
use Rattle.part_bytes.specs.Texts.{four as four_bytes, text_bytes}
use Rattle.checkpoint_bytes.specs.Texts.{table_bytes}
use Rattle.checkpoint_reader.specs.declared.forms.Texts.{Texts}
use Rattle.checkpoint_reader.specs.declared.forms.Texts.TheVariants.{InPlace, Numbered}
use Rattle.checkpoint_reader.specs.declared.fields.Listed.{Listed}
use Rattle.checkpoint_reader.specs.declared.fields.Table.{Table}
use Rattle.checkpoint_reader.specs.Reads.{Answer, Read, pure, after, turns}
use Rattle.checkpoint_reader.specs.Fields.{listed_after, none_listed, no_table, table_of, four, taken, next_text, table}
use Rattle.checkpoint_laws.proofs.Offs.{Stands, stands_first, stands_next}
use Rattle.checkpoint_laws.proofs.Listed.{AreNew, AreListed}
use Rattle.checkpoint_laws.proofs.Steps.{answer, Off, off_then, off_end, off_taken, off_four}

abbrev listed_so : List (List ℕ) → List ℕ → Listed
listed_so ts places = record { texts = ts; places = places }

-- the table is read at a place, with so many places of texts
pub record TableRead (bytes : List ℕ) (version : ℕ) (texts : Texts) (size : ℕ) (xs : List ℕ) (at : ℕ) : Type 0 where
  pub places : List ℕ
  pub many : length places ≡ size
  pub off : (let all : Table = record { texts = texts; places = places } in table bytes version at ≡ answer all (at + length xs))

module _ (bytes : List ℕ) where
  one_text : (ts : List (List ℕ)) (places : List ℕ) (t : List ℕ) (at : ℕ) → has_text ts t ≡ false → IsText t → Stands bytes at (text_bytes t)
      → next_text bytes (listed_so ts places) at ≡ answer (listed_so (ts ++ t ∷ []) (places ++ at ∷ [])) (at + length (text_bytes t))
  unfolding next_text
  one_text ts places t at new h s =
      let now : Listed = listed_so (ts ++ t ∷ []) (places ++ at ∷ []) in
      off_then bytes (four bytes) (λ n r. after (taken bytes at n r) (λ xs. listed_after at (listed_so ts places) xs)) (four_bytes (length t)) t (length t) now (off_four bytes (length t) h.1)
      (off_end bytes (taken bytes at (length t)) (λ xs. listed_after at (listed_so ts places) xs) t t now (off_taken bytes at (length t) t refl) (λ end. rw (h.0, new) refl)) at s

  record TextsRead (ts before : List (List ℕ)) (places : List ℕ) (at : ℕ) : Type 0 where
    pub more : List ℕ
    pub many : length more ≡ length ts
    pub off : turns (next_text bytes) (length ts) (listed_so before places) at ≡ answer (listed_so (before ++ ts) (places ++ more)) (at + length (flat_map text_bytes ts))

  off_texts : (ts before : List (List ℕ)) (places : List ℕ) (at : ℕ) → AreNew before ts → AllByRecursion IsText ts → Stands bytes at (flat_map text_bytes ts) → TextsRead ts before places at
  off_texts [] before places at n h s = record {
    more = [];
    many = refl;
    off = ap (λ (k : ℕ). answer (listed_so before places) k) (sym (add-zero at))
        ∙ (ap (λ (xs : List (List ℕ)). answer (listed_so xs places) (at + 0)) (sym (append-nil before)) ∙ ap (λ (ps : List ℕ). answer (listed_so (before ++ []) ps) (at + 0)) (sym (append-nil places)));
  }
  off_texts (t ∷ ts) before places at n h s =
      let here : ℕ = length (text_bytes t) in
      let first = one_text before places t at n.0 h.0 (stands_first bytes at (text_bytes t) (flat_map text_bytes ts) s) in
      let rest = off_texts ts (before ++ t ∷ []) (places ++ at ∷ []) (at + here) n.1 h.1 (stands_next bytes at (text_bytes t) (flat_map text_bytes ts) s) in
      let size : at + here + length (flat_map text_bytes ts) ≡ at + length (text_bytes t ++ flat_map text_bytes ts) = let all = length-append (text_bytes t) (flat_map text_bytes ts) in omega (arith, all) in
      let turn = λ (now : Listed). turns (next_text bytes) (length ts) now in
      let end : ℕ = at + here + length (flat_map text_bytes ts) in
      record {
        more = at ∷ rest.more;
        many = let k = rest.many in omega (arith, k);
        off = ap (λ (r : Answer Listed). after r turn) first
            ∙ (rest.off
            ∙ (ap (λ (xs : List (List ℕ)). answer (listed_so xs ((places ++ at ∷ []) ++ rest.more)) end) (append_assoc before (t ∷ []) ts)
            ∙ (ap (λ (ps : List ℕ). answer (listed_so (before ++ t ∷ ts) ps) end) (append_assoc places (at ∷ []) rest.more)
            ∙ ap (λ (k : ℕ). answer (listed_so (before ++ t ∷ ts) (places ++ at ∷ rest.more)) k) size)));
      }

  pub off_no_table : (at : ℕ) → TableRead bytes 1 InPlace 0 [] at
  unfolding table
  off_no_table at = record { places = []; many = refl; off = ap (λ (k : ℕ). answer no_table k) (sym (add-zero at)) }

  pub off_table : (ts : List (List ℕ)) (at : ℕ) → AreListed ts → Stands bytes at (table_bytes ts) → TableRead bytes 2 (Numbered ts) (length ts) (table_bytes ts) at
  unfolding table
  off_table ts at ok s =
      let count : List ℕ = four_bytes (length ts) in
      let all : List ℕ = flat_map text_bytes ts in
      let first : four bytes at ≡ answer (length ts) (at + length count) = off_four bytes (length ts) ok.few at (stands_first bytes at count all s) in
      let rest = off_texts ts [] [] (at + length count) ok.new ok.texts (stands_next bytes at count all s) in
      let size : at + length count + length all ≡ at + length (count ++ all) = let both = length-append count all in omega (arith, both) in
      let tables : ℕ → Read Table = λ n spot. after (turns (next_text bytes) n none_listed spot) (λ listed. pure (table_of listed)) in
      let whole : Table = record { texts = Numbered ts; places = rest.more } in
      record {
        places = rest.more;
        many = rest.many;
        off = ap (λ (r : Answer ℕ). after r tables) first ∙ (ap (λ (r : Answer Listed). after r (λ listed. pure (table_of listed))) rest.off ∙ ap (λ (k : ℕ). answer whole k) size);
      }
