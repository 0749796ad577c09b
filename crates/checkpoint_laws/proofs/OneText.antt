-- A checkpoint has one text, and no text of a checkpoint begins another one.
use Rattle.std.proofs.Common.{◌≡◌, ℕ, ◌<◌, ◌==◌, List, [], ◌++◌, length, None, Ok, Err, refl, sym, ap, ◌∙◌, subst, inl, inr, arith, All}
use Rattle.std.proofs.lemmas.Bool.{cases_Bool, eqb-true}
use Rattle.std.proofs.lemmas.List.{length-append, nil_from_length}
use Rattle.checkpoint_reader.specs.declared.checkpoint.Checkpoint.{Checkpoint}
use Rattle.checkpoint_reader.specs.declared.fault.CheckpointFault.TheVariants.{Trailing}
use Rattle.checkpoint_reader.specs.declared.fields.Fields.{Fields}
use Rattle.checkpoint_reader.specs.Reads.{Answer}
use Rattle.checkpoint_reader.specs.Fields.{ended, fields}
use Rattle.checkpoint_reader.specs.Judging.{checkpoint_of, IsAnswer}
use Rattle.checkpoint_laws.specs.Texts.{fields_text, version_in}
use Rattle.checkpoint_laws.proofs.Eats.{answer, failed}
use Rattle.checkpoint_laws.proofs.WholeTexts.{read_is_text}
use Rattle.checkpoint_laws.proofs.Longer.{fields_lead}

-- the fields of a checkpoint
record FieldsOf (r : Answer Fields) (k : Checkpoint) : Type 0 where
  pub read : Fields
  pub end : ℕ
  pub was : r ≡ answer read end
  pub is : k ≡ checkpoint_of read

fields_of : (r : Answer Fields) (k : Checkpoint) → IsAnswer r (Ok k) → FieldsOf r k
fields_of (Ok read) k h = record { read = read.0; end = read.1; was = refl; is = h.0 }
fields_of (Err fault) k h = absurd (let no : Ok k ≡ Err fault = h in cc)

-- the text of a checkpoint in a version of the format
text_for : ℕ → Checkpoint → List ℕ
text_for version k = fields_text version (record {
  count = k.count;
  meter = k.meter;
  cells = record { records = k.graph.cells; rerun = k.plan.rerun; known = 0 };
  versions = record { records = k.graph.versions; copied = k.plan.copied; parts = k.parts; unlike = None; known = 0 };
})

same_text : (version : ℕ) (f : Fields) → fields_text version f ≡ text_for version (checkpoint_of f)
unfolding text_for
same_text version f = refl

is_text : (a : List ℕ) (k : Checkpoint) → All (λ b. b < 256) a → IsAnswer (fields a 0) (Ok k) → a ≡ text_for (version_in a) k
is_text a k small h =
    let f = fields_of (fields a 0) k h in
    (read_is_text a small f.read f.end f.was).0 ∙ (same_text (version_in a) f.read ∙ ap (text_for (version_in a)) (sym f.is))

pub one_text : (a b : List ℕ) (k : Checkpoint) → All (λ b. b < 256) a → All (λ b. b < 256) b → version_in a ≡ version_in b → IsAnswer (fields a 0) (Ok k) → IsAnswer (fields b 0) (Ok k) → a ≡ b
one_text a b k small also version h i = is_text a k small h ∙ (ap (λ (v : ℕ). text_for v k) version ∙ sym (is_text b k also i))

pub no_prefix : (a more : List ℕ) (k l : Checkpoint) → All (λ b. b < 256) a → IsAnswer (fields a 0) (Ok k) → IsAnswer (fields (a ++ more) 0) (Ok l) → more ≡ []
unfolding ended
no_prefix a more k l small h i =
    let f = fields_of (fields a 0) k h in
    let lead : fields (a ++ more) 0 ≡ ended (a ++ more) f.read f.end = fields_lead a more small f.read f.end f.was in
    let end : f.end ≡ length a = (read_is_text a small f.read f.end f.was).1 in
    let size = length-append a more in
    elim (cases_Bool (f.end == length (a ++ more))) [
      | inl y ↦ let same = eqb-true f.end (length (a ++ more)) y in nil_from_length more (omega (arith, end, size, same))
      | inr n ↦
          let fails : fields (a ++ more) 0 ≡ failed Fields (Trailing f.end) = lead ∙ rw n refl in
          let judged : IsAnswer (failed Fields (Trailing f.end)) (Ok l) = subst (λ (r : Answer Fields). IsAnswer r (Ok l)) fails i in
          absurd (let no : Ok l ≡ Err (Trailing f.end) = judged in cc)
    ]
