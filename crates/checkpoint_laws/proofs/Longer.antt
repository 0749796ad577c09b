-- What was read of some bytes is read of them again if more bytes follow.
use Rattle.std.proofs.Common.{◌≡◌, ℕ, zero, suc, ◌+◌, ◌-◌, ◌<◌, ◌≤◌, Bool, true, false, List, [], ◌∷◌, ◌++◌, length, take, drop, Option, Result, Ok, refl, sym, ap, ◌∙◌, subst, inl, inr, arith, All}
use Rattle.std.specs.Prelude.{nat_le, slice_get, slice_index, ◌==◌, ◌⊎◌, if◌then◌else◌}
use Rattle.std.proofs.lemmas.Bool.{cases_Bool, le-leb, leb-true}
use Rattle.std.proofs.lemmas.List.{append_assoc, drop-append-le, length-append, length-drop, take-append-drop, take-append-le}
use Rattle.std.proofs.lemmas.List.Elements.{All-drop}
use Rattle.byteorder.specs.Endian.{big_number}
use Rattle.graph_model.specs.declared.graph.Version.{Version}
use Rattle.part_bytes.specs.declared.part.PartValue.{PartValue}
use Rattle.part_bytes.specs.Texts.{spelled_part}
use Rattle.checkpoint_reader.specs.declared.forms.Texts.{Texts}
use Rattle.checkpoint_reader.specs.declared.forms.Texts.TheVariants.{InPlace, Numbered}
use Rattle.checkpoint_reader.specs.declared.part_fault.PartFault.{PartFault}
use Rattle.checkpoint_reader.specs.PartReading.{part_read2}
use Rattle.checkpoint_laws.proofs.Counts.{spell_of, AreThere}
use Rattle.checkpoint_laws.proofs.Listed.{IsTable}
use Rattle.checkpoint_laws.proofs.Offs.{Stands}
use Rattle.checkpoint_laws.proofs.FoundWhole.{read_there}
use Rattle.checkpoint_laws.proofs.WholeParts.{read_back_by}
use Rattle.checkpoint_reader.specs.declared.fields.Listed.{Listed}
use Rattle.checkpoint_reader.specs.declared.fields.Table.{Table}
use Rattle.checkpoint_reader.specs.declared.fault.CheckpointFault.TheVariants.{BadMagic, Cut}
use Rattle.checkpoint_reader.specs.declared.fields.Cells.{Cells}
use Rattle.checkpoint_reader.specs.declared.fields.Versions.{Versions}
use Rattle.checkpoint_reader.specs.declared.fields.Fields.{Fields}
use Rattle.checkpoint_reader.specs.Reads.{Answer, Read, pure, after, turns, one_more, many}
use Rattle.checkpoint_reader.specs.Fields.{begins, format_of, bounded, truth_of, as_text_field, listed_after, code_of, numbered_code, size_of, part_of, none_listed, no_table, table_of, all_used, with_cell, with_version, with_copy, no_cells, no_versions, taken, byte, two, four, magic, format, at_most, truth, next_text, table, code, code_by_number, code_as, name, numbers, names, cell, flag, size, version, part, next_cell, kept, next_version, cells, versions, ended, fields}
use Rattle.checkpoint_laws.proofs.Eats.{answer, same_value, failed, reached, bytes_small}
use Rattle.checkpoint_laws.proofs.Pieces.{eats_format}
use Rattle.checkpoint_laws.proofs.TableTexts.{eats_table1, eats_table2}
use Rattle.checkpoint_laws.proofs.TextRecords.{part_found, eats_part, eats_cells}
use Rattle.checkpoint_laws.proofs.WholeTexts.{fields_of, last_of, then_versions, then_cells, then_table, then_meter, then_count, then_format, last_found, magic_eaten}

-- what the first step reads the second one reads too, up to the same place
abbrev Goes : {A : Type 0} → Read A → Read A → Type 0
Goes {A = A} m n = (at next : ℕ) (a : A) → m at ≡ answer a next → n at ≡ answer a next

goes_same : {A : Type 0} (m : Read A) → Goes m m
goes_same m = λ at next a e. e

goes_then : {A B : Type 0} (m n : Read A) (f g : A → Read B) → Goes m n → ((a : A) → Goes (f a) (g a)) → Goes (λ at. after (m at) f) (λ at. after (n at) g)
goes_then {A = A} m n f g h k = λ at next b e.
    let r = reached (m at) f b next e in
    ap (λ (q : Answer A). after q g) (h at r.mid r.first r.was) ∙ k r.first r.mid next b r.next

-- steps that are followed by the same
goes_on : {A B : Type 0} (m n : Read A) (f : A → Read B) → Goes m n → Goes (λ at. after (m at) f) (λ at. after (n at) f)
goes_on m n f h = goes_then m n f f h (λ a. goes_same (f a))

goes_turns : {A : Type 0} (f g : A → Read A) → ((a : A) → Goes (f a) (g a)) → (n : ℕ) (a : A) → Goes (turns f n a) (turns g n a)
goes_turns f g h zero a = goes_same (pure a)
goes_turns f g h (suc n) a = goes_then (f a) (g a) (λ b. turns f n b) (λ b. turns g n b) (h a) (λ b. goes_turns f g h n b)

goes_many : {A : Type 0} (m n : Read A) → Goes m n → (k : ℕ) → Goes (many m k) (many n k)
goes_many m n h k = goes_turns (one_more m) (one_more n) (λ before. goes_on m n (λ a. pure (before ++ a ∷ [])) h) k []

-- what is left of a longer list
record Rest (n : ℕ) (xs ys : List ℕ) : Type 0 where
  pub rest : List ℕ
  pub is : drop n (xs ++ ys) ≡ drop n xs ++ rest

rest_of : (n : ℕ) (xs ys : List ℕ) → Rest n xs ys
rest_of zero xs ys = record { rest = ys; is = refl }
rest_of (suc n) [] ys = record { rest = drop (suc n) ys; is = refl }
rest_of (suc n) (x ∷ xs) ys = let r = rest_of n xs ys in record { rest = r.rest; is = r.is }

module _ (a more : List ℕ) where
  abbrev b : List ℕ
  b = a ++ more

  goes_taken : (field n : ℕ) → Goes (taken a field n) (taken b field n)
  unfolding taken
  goes_taken field n at next xs e = elim (cases_Bool (nat_le (at + n) (length a))) [
    | inl y ↦
        let room : at + n ≤ length a = leb-true (at + n) (length a) y in
        let size = length-append a more in
        let k : ℕ = at + n - at in
        let left : length (drop at a) ≡ length a - at = length-drop at a in
        let same : take k (drop at b) ≡ take k (drop at a) =
        ap (λ (zs : List ℕ). take k zs) (drop-append-le at a more (omega (arith, room))) ∙ take-append-le k (drop at a) more (omega (arith, left, room)) in
        let also : nat_le (at + n) (length b) ≡ true = le-leb (at + n) (length b) (omega (arith, size, room)) in
        let is : answer (take k (drop at a)) (at + n) ≡ answer xs next = rw y at e in
        rw also (ap (λ (zs : List ℕ). answer zs (at + n)) same ∙ is)
    | inr f ↦ absurd (let no : failed (List ℕ) (Cut field) ≡ answer xs next = rw f at e in cc)
  ]

  -- ---- numbers, texts and names

  goes_byte : Goes (byte a) (byte b)
  unfolding byte
  goes_byte = λ at. goes_on (taken a at 1) (taken b at 1) (λ xs. pure (slice_index xs 0)) (goes_taken at 1) at

  goes_two : Goes (two a) (two b)
  unfolding two
  goes_two = λ at. goes_on (taken a at 2) (taken b at 2) (λ xs. pure (big_number 2 xs)) (goes_taken at 2) at

  goes_four : Goes (four a) (four b)
  unfolding four
  goes_four = λ at. goes_on (taken a at 4) (taken b at 4) (λ xs. pure (big_number 4 xs)) (goes_taken at 4) at

  goes_format : Goes (format a) (format b)
  unfolding format
  goes_format = goes_on (two a) (two b) (λ n. format_of n) goes_two

  goes_at_most : (most : ℕ) → Goes (at_most a most) (at_most b most)
  unfolding at_most
  goes_at_most most = λ at. goes_on (four a) (four b) (λ n. bounded most at n) goes_four at

  goes_truth : Goes (truth a) (truth b)
  unfolding truth
  goes_truth = λ at. goes_on (byte a) (byte b) (λ n. truth_of at n) goes_byte at

  goes_flag : Goes (flag a) (flag b)
  unfolding flag
  goes_flag = λ at. goes_on (byte a) (byte b) (λ n. bounded 2 at n) goes_byte at

  goes_size : (kind : ℕ) → Goes (size a kind) (size b kind)
  unfolding size
  goes_size kind = λ at. goes_on (four a) (four b) (λ n. size_of kind at n) goes_four at

  goes_spelled_code : Goes (code a) (code b)
  unfolding code
  goes_spelled_code = λ at. goes_then (four a) (four b) (λ n s. after (taken a at n s) (λ xs. code_of at xs)) (λ n s. after (taken b at n s) (λ xs. code_of at xs)) goes_four
      (λ n. goes_on (taken a at n) (taken b at n) (λ xs. code_of at xs) (goes_taken at n)) at

  goes_numbered_code : (all : List (List ℕ)) (known : ℕ) → Goes (code_by_number a all known) (code_by_number b all known)
  unfolding code_by_number
  goes_numbered_code all known = λ at. goes_on (four a) (four b) (λ n. numbered_code all known at n) goes_four at

  goes_code : (texts : Texts) (known : ℕ) → Goes (code_as a texts known) (code_as b texts known)
  goes_code InPlace known = goes_on (code a) (code b) (λ t. pure (t, known)) goes_spelled_code
  goes_code (Numbered all) known = goes_numbered_code all known

  -- ---- the table

  goes_text : (before : Listed) → Goes (next_text a before) (next_text b before)
  unfolding next_text
  goes_text before = λ at. goes_then (four a) (four b) (λ n s. after (taken a at n s) (λ xs. listed_after at before xs)) (λ n s. after (taken b at n s) (λ xs. listed_after at before xs)) goes_four
      (λ n. goes_on (taken a at n) (taken b at n) (λ xs. listed_after at before xs) (goes_taken at n)) at

  goes_texts : Goes (λ at. after (four a at) (λ n s. after (turns (next_text a) n none_listed s) (λ listed. pure (table_of listed)))) (λ at. after (four b at) (λ n s. after (turns (next_text b) n none_listed s) (λ listed. pure (table_of listed))))
  goes_texts = goes_then (four a) (four b) (λ n s. after (turns (next_text a) n none_listed s) (λ listed. pure (table_of listed))) (λ n s. after (turns (next_text b) n none_listed s) (λ listed. pure (table_of listed))) goes_four
      (λ n. goes_on (turns (next_text a) n none_listed) (turns (next_text b) n none_listed) (λ listed. pure (table_of listed)) (goes_turns (next_text a) (next_text b) goes_text n none_listed))

  goes_if : {A : Type 0} (c : Bool) (m n k l : Read A) → Goes m n → Goes k l → Goes (if c then m else k) (if c then n else l)
  goes_if true m n k l h i = h
  goes_if false m n k l h i = i

  goes_table : (version : ℕ) → Goes (table a version) (table b version)
  unfolding table
  goes_table version = goes_if (version == 1) (pure no_table) (pure no_table) _ _ (goes_same (pure no_table)) goes_texts

  goes_name : Goes (name a) (name b)
  unfolding name
  goes_name = λ at. goes_then (byte a) (byte b) (λ n s. after (taken a at n s) (λ xs. as_text_field at xs)) (λ n s. after (taken b at n s) (λ xs. as_text_field at xs)) goes_byte
      (λ n. goes_on (taken a at n) (taken b at n) (λ xs. as_text_field at xs) (goes_taken at n)) at

  goes_numbers : Goes (numbers a) (numbers b)
  unfolding numbers
  goes_numbers = goes_then (four a) (four b) (λ n. many (four a) n) (λ n. many (four b) n) goes_four (goes_many (four a) (four b) goes_four)

  goes_names : Goes (names a) (names b)
  unfolding names
  goes_names = goes_then (four a) (four b) (λ n. many (name a) n) (λ n. many (name b) n) goes_four (goes_many (name a) (name b) goes_name)

  -- ---- cells and versions

  goes_cell : (texts : Texts) (known : ℕ) → Goes (cell a texts known) (cell b texts known)
  unfolding cell
  goes_cell texts known =
      goes_then (code_as a texts known) (code_as b texts known) _ _ (goes_code texts known) (λ t.
      goes_then (at_most a 16777216) (at_most b 16777216) _ _ (goes_at_most 16777216) (λ m.
      goes_then (at_most a 1000000) (at_most b 1000000) _ _ (goes_at_most 1000000) (λ n.
      goes_then (truth a) (truth b) _ _ goes_truth (λ d.
      goes_then (truth a) (truth b) _ _ goes_truth (λ r.
      goes_then (numbers a) (numbers b) _ _ goes_numbers (λ q.
      goes_on (names a) (names b) _ goes_names))))))

  goes_version : Goes (version a) (version b)
  unfolding version
  goes_version =
      goes_then (four a) (four b) _ _ goes_four (λ w.
      goes_then (four a) (four b) _ _ goes_four (λ r.
      goes_then (flag a) (flag b) _ _ goes_flag (λ k.
      goes_then (size a k) (size b k) _ _ (goes_size k) (λ n.
      goes_then (names a) (names b) _ _ goes_names (λ all.
      goes_on (truth a) (truth b) _ goes_truth)))))

  goes_next_cell : (texts : Texts) (before : Cells) → Goes (next_cell a texts before) (next_cell b texts before)
  unfolding next_cell
  goes_next_cell texts before = goes_on (cell a texts before.known) (cell b texts before.known) (λ c. pure (with_cell before c)) (goes_cell texts before.known)

  goes_cells : (texts : Texts) → Goes (cells a texts) (cells b texts)
  unfolding cells
  goes_cells texts = goes_then (four a) (four b) (λ n. turns (next_cell a texts) n no_cells) (λ n. turns (next_cell b texts) n no_cells) goes_four
      (λ n. goes_turns (next_cell a texts) (next_cell b texts) (goes_next_cell texts) n no_cells)

  module _ (small : All (λ b. b < 256) a) where
    -- a part of a table whose texts are each at its number
    goes_part : (texts : Texts) (ok : IsTable texts) (known : ℕ) → AreThere texts known → Goes (part a texts known) (part b texts known)
    unfolding part
    goes_part texts ok known room at next c e =
        let f = part_found at next (part_read2 texts known (drop at a)) c e in
        let r = read_there texts ok (drop at a) (bytes_small (drop at a) (All-drop (λ b. b < 256) at a small)) c.0 f.size known c.1 f.was in
        let p : List ℕ = spelled_part (spell_of texts) c.0 in
        let longer = rest_of at a more in
        let there : drop at b ≡ p ++ (r.rest ++ longer.rest) = longer.is ∙ (ap (λ (zs : List ℕ). zs ++ longer.rest) r.whole ∙ append_assoc p r.rest longer.rest) in
        let stands : Stands (drop at b) 0 p = record { front = []; rest = r.rest ++ longer.rest; is = there; where_ = refl } in
        let again : part_read2 texts known (drop at b) ≡ Ok (c.0, f.size, c.1) =
        read_back_by texts ok (drop at b) c.0 known c.1 r.is r.known_to (r.there room) stands ∙ ap (λ (k : ℕ). Ok (c.0, k, c.1)) (sym r.size) in
        ap (λ (q : Result (PartValue × ℕ × ℕ) PartFault). part_of at q) again ∙ ap (λ (k : ℕ). answer c k) f.to

    module _ (texts : Texts) (ok : IsTable texts) where
      -- no more texts are known than there are
      abbrev KnowsThere : Versions → Type 0
      KnowsThere vs = AreThere texts vs.known

      goes_kept : (before : Versions) (x : Version) (c : Bool) → KnowsThere before → Goes (kept a texts before x c) (kept b texts before x c)
      unfolding kept
      goes_kept before x true room = goes_on (part a texts before.known) (part b texts before.known) (λ copy. pure (with_copy before x copy)) (goes_part texts ok before.known room)
      goes_kept before x false room = goes_same (pure (with_version before x))

      goes_next_version : (before : Versions) → KnowsThere before → Goes (next_version a texts before) (next_version b texts before)
      unfolding next_version
      goes_next_version before room = goes_then (version a) (version b) (λ x. kept a texts before x.0 x.1) (λ x. kept b texts before x.0 x.1) goes_version (λ x. goes_kept before x.0 x.1 room)

      kept_there : (before now : Versions) (x : Version) (c : Bool) (at next : ℕ) → KnowsThere before → kept a texts before x c at ≡ answer now next → KnowsThere now
      unfolding kept
      kept_there before now x true at next room e =
          let r = reached (part a texts before.known at) (λ copy. pure (with_copy before x copy)) now next e in
          let same : with_copy before x r.first ≡ now = same_value (with_copy before x r.first) now r.mid next r.next in
          let there : AreThere texts r.first.1 = (eats_part texts ok a small before.known at r.mid r.first r.was).is.1.there room in
          subst KnowsThere same there
      kept_there before now x false at next room e = subst KnowsThere (same_value (with_version before x) now at next e) room

      next_there : (before now : Versions) (at next : ℕ) → KnowsThere before → next_version a texts before at ≡ answer now next → KnowsThere now
      unfolding next_version
      next_there before now at next room e =
          let r = reached (version a at) (λ x. kept a texts before x.0 x.1) now next e in
          kept_there before now r.first.0 r.first.1 r.mid next room r.next

      goes_all_versions : (n : ℕ) (before : Versions) → KnowsThere before → Goes (turns (next_version a texts) n before) (turns (next_version b texts) n before)
      goes_all_versions zero before room = goes_same (pure before)
      goes_all_versions (suc n) before room = λ at next now e.
          let r = reached (next_version a texts before at) (λ vs. turns (next_version a texts) n vs) now next e in
          ap (λ (q : Answer Versions). after q (λ vs. turns (next_version b texts) n vs)) (goes_next_version before room at r.mid r.first r.was)
          ∙ goes_all_versions n r.first (next_there before r.first at r.mid room r.was) r.mid next now r.next

      goes_versions : (known : ℕ) → AreThere texts known → Goes (versions a texts known) (versions b texts known)
      unfolding versions
      goes_versions known room = goes_then (four a) (four b) (λ n. turns (next_version a texts) n (no_versions known)) (λ n. turns (next_version b texts) n (no_versions known)) goes_four
          (λ n. goes_all_versions n (no_versions known) room)

    -- ---- up to the end of the shorter bytes

    -- what the first step reads to the end the second one reads too, and looks there whether the longer bytes end
    abbrev Leads : Read Fields → Read Fields → Type 0
    Leads m n = (at next : ℕ) (f : Fields) → m at ≡ answer f next → n at ≡ ended b f next

    -- a step of which so much is known, and those after it
    leads_knowing : {A : Type 0} (m n : Read A) (f g : A → Read Fields) (K : A → Type 0) → Goes m n → ((at next : ℕ) (x : A) → m at ≡ answer x next → K x) → ((x : A) → K x → Leads (f x) (g x))
        → Leads (λ at. after (m at) f) (λ at. after (n at) g)
    leads_knowing {A = A} m n f g K h known k = λ at next read e.
        let r = reached (m at) f read next e in
        ap (λ (q : Answer A). after q g) (h at r.mid r.first r.was) ∙ k r.first (known at r.mid r.first r.was) r.mid next read r.next

    leads_then : {A : Type 0} (m n : Read A) (f g : A → Read Fields) → Goes m n → ((x : A) → Leads (f x) (g x)) → Leads (λ at. after (m at) f) (λ at. after (n at) g)
    leads_then m n f g h k = leads_knowing m n f g (λ x. Unit {0}) h (λ at next x e. tt) (λ x u. k x)

    table_known : (version : ℕ) → (version ≡ 1) ⊎ (version ≡ 2) → (at next : ℕ) (t : Table) → table a version at ≡ answer t next → IsTable t.texts
    table_known n (inl e) at next t h =
        let a1 = eats_table1 a small at next t (subst (λ (v : ℕ). table a v at ≡ answer t next) e h) in subst (λ (u : Table). IsTable u.texts) (sym a1.is.0) tt
    table_known n (inr e) at next t h =
        let a2 = eats_table2 a small at next t (subst (λ (v : ℕ). table a v at ≡ answer t next) e h) in subst IsTable (sym a2.is.1.is) a2.is.1.ok

    last_leads : (count meter : ℕ) (t : Table) (cs : Cells) (vs : Versions) → Leads (last_of a count meter t cs vs) (last_of b count meter t cs vs)
    last_leads count meter t cs vs at next f e =
        let read : Fields = fields_of a count meter cs vs in
        let d = last_found a (slice_get t.places vs.known) read f at next e in
        ap (λ (o : Option ℕ). after (all_used o read at) (ended b)) d.none ∙ (ap (λ (k : ℕ). ended b read k) d.to ∙ ap (λ (g : Fields). ended b g next) d.is)

    rest_leads : (first : List ℕ) → Leads (then_format a first) (then_format b first)
    rest_leads first =
        leads_knowing (format a) (format b) (then_count a) (then_count b) (λ n. (n ≡ 1) ⊎ (n ≡ 2)) goes_format (λ at next n e. (eats_format a small at next n e).is.1) (λ version which.
        leads_then (four a) (four b) (then_meter a version) (then_meter b version) goes_four (λ count.
        leads_then (at_most a 16777216) (at_most b 16777216) (then_table a version count) (then_table b version count) (goes_at_most 16777216) (λ meter.
        leads_knowing (table a version) (table b version) (then_cells a count meter) (then_cells b count meter) (λ t. IsTable t.texts) (goes_table version) (table_known version which) (λ t ok.
        leads_knowing (cells a t.texts) (cells b t.texts) (then_versions a count meter t) (then_versions b count meter t) (λ cs. AreThere t.texts cs.known) (goes_cells t.texts)
        (λ at next cs e. (eats_cells t.texts ok a small at next cs e).is.1.1) (λ cs room.
        leads_then (versions a t.texts cs.known) (versions b t.texts cs.known) (last_of a count meter t cs) (last_of b count meter t cs) (goes_versions t.texts ok cs.known room) (λ vs. last_leads count meter t cs vs))))))

    magic_goes : (next : ℕ) (xs : List ℕ) → magic a 0 ≡ answer xs next → magic b 0 ≡ answer xs next
    unfolding magic
    magic_goes next xs e =
        let ate = magic_eaten a small next xs e in
        let begin : begins b ≡ true = ap (λ (zs : List ℕ). begins (zs ++ more)) (ate.left ∙ ap (λ (zs : List ℕ). zs ++ drop next a) ate.is) in
        elim (cases_Bool (begins a)) [
          | inl y ↦ let is : taken a 0 4 0 ≡ answer xs next = rw y at e in rw begin (goes_taken 0 4 0 next xs is)
          | inr f ↦ absurd (let no : failed (List ℕ) BadMagic ≡ answer xs next = rw f at e in cc)
        ]

    pub fields_lead : (f : Fields) (next : ℕ) → fields a 0 ≡ answer f next → fields b 0 ≡ ended b f next
    unfolding fields
    fields_lead f next e =
        let r = reached (magic a 0) (then_format a) f next e in
        ap (λ (q : Answer (List ℕ)). after q (then_format b)) (magic_goes r.mid r.first r.was) ∙ rest_leads r.first r.mid next f r.next
