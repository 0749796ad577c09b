-- The frames of many entries, made in parts.
use Rattle.std.proofs.Common.{◌≡◌, ℕ, ◌+◌, List, [], ◌∷◌, ◌++◌, append_assoc, append-nil, take, drop, Option, refl, ap, sym, ◌∙◌, subst, arith}
use Rattle.std.specs.List.{sum_by}
use Rattle.std.proofs.lemmas.List.Sums.{sum_by-append}
use Rattle.std.proofs.lemmas.Grind.{flat_map-append}
use Rattle.std.proofs.lemmas.List.{take-append-drop}
use Rattle.nb_outside.specs.Streams.{Adds}
use Rattle.session_core.specs.declared.entry.Entry.{Entry}
use Rattle.reply_frames.specs.Replies.{entry_length}
use Rattle.node_run.specs.Frames.{journal_frames, parts_together, AddsFront, AddsEntriesBefore, AddsBatchBefore, WritesSoFar}
use Rattle.node_run.proofs.Streaming.{Adds-none, Adds-both, piece_written, front_written, all_written, gathered_on, gathered_front}
use Rattle.node_run.proofs.Framing.{entry_end}
use Rattle.node_run.proofs.Stopping.{entries_append, gathered_is}

-- a list, cut in two
pub halves : {X : Type 0} (k : ℕ) (all front back : List X) → front ≡ take k all → back ≡ drop k all → all ≡ front ++ back
halves k all front back is_front is_back = sym (ap (λ xs. xs ++ back) is_front ∙ ap (λ xs. take k all ++ xs) is_back ∙ take-append-drop k all)

-- ---- frames that are made one after the other

pub rendered_none : (all bytes : List ℕ) → bytes ≡ [] → all ≡ bytes ++ all
rendered_none all bytes none = ap (λ z. z ++ all) (sym none)

pub rendered_on : (all bytes now rest piece more : List ℕ) → all ≡ bytes ++ rest → rest ≡ piece ++ more → now ≡ bytes ++ piece → all ≡ now ++ more
rendered_on all bytes now rest piece more is next then = is ∙ ap (λ z. bytes ++ z) next ∙ sym (append_assoc bytes piece more) ∙ ap (λ z. z ++ more) (sym then)

pub rendered_all : (all bytes rest : List ℕ) → all ≡ bytes ++ rest → rest ≡ [] → bytes ≡ all
rendered_all all bytes rest is none = sym (is ∙ ap (λ z. bytes ++ z) none ∙ append-nil bytes)

-- ---- parts

-- the frames of two batches, one after the other
pub batches_append : (kernel first middle : ℕ) (entries front back : List Entry) → entries ≡ front ++ back → middle ≡ first + sum_by entry_length front
    → journal_frames kernel first entries ≡ journal_frames kernel first front ++ journal_frames kernel middle back
batches_append kernel first middle entries front back halves number =
    ap (journal_frames kernel first) halves ∙ entries_append kernel first front back ∙ ap (λ (n : ℕ). journal_frames kernel first front ++ journal_frames kernel n back) (sym number)

-- the frames of both, in parts
pub parts_both : (kernel first middle : ℕ) (entries front back : List Entry) (made more all : List (List ℕ)) → entries ≡ front ++ back → middle ≡ first + sum_by entry_length front
    → parts_together made ≡ journal_frames kernel first front → parts_together more ≡ journal_frames kernel middle back → all ≡ made ++ more
    → parts_together all ≡ journal_frames kernel first entries
parts_both kernel first middle entries front back made more all halves number is_made is_more is_all =
    ap parts_together is_all ∙ flat_map-append (λ part. part) made more ∙ ap (λ z. z ++ parts_together more) is_made ∙ ap (λ z. journal_frames kernel first front ++ z) is_more
    ∙ sym (batches_append kernel first middle entries front back halves number)

-- one part alone
pub one_together : (bytes : List ℕ) (none parts : List (List ℕ)) → none ≡ [] → parts ≡ none ++ bytes ∷ [] → parts_together parts ≡ bytes
one_together bytes none parts empty is = ap parts_together (is ∙ ap (λ ps. ps ++ bytes ∷ []) empty) ∙ append-nil bytes

-- ---- what waited is written, and what is made waits

pub made_waits : (old new : Option (List ℕ)) (waited frames made : List ℕ) → Adds old new waited → made ≡ frames → WritesSoFar old new (waited ++ frames) made
made_waits old new waited frames made adds is = record { done = waited; parts = ap (λ z. waited ++ z) (sym is); adds = adds }

pub none_waits : (old mid new : Option (List ℕ)) (waited frames none : List ℕ) → Adds old mid waited → Adds mid new frames → none ≡ [] → WritesSoFar old new (waited ++ frames) none
none_waits old mid new waited frames none first then is = record {
  done = waited ++ frames;
  parts = sym (ap (λ z. (waited ++ frames) ++ z) is ∙ append-nil (waited ++ frames));
  adds = Adds-both old mid new waited frames first then;
}

-- of a journal the frames of the first entries are written or wait, and this is the number after theirs
pub record Batched (old now : Option (List ℕ)) (kernel running : ℕ) (entries rest : List Entry) (parts : List (List ℕ)) : Type 0 where
  pub done : List Entry
  pub cut : entries ≡ done ++ rest
  pub number : running ≡ 1 + sum_by entry_length done
  pub writes : WritesSoFar old now (journal_frames kernel 1 entries) (parts_together parts ++ journal_frames kernel running rest)

pub none_batched : (old : Option (List ℕ)) (kernel : ℕ) (entries : List Entry) (parts : List (List ℕ)) → parts ≡ [] → Batched old old kernel 1 entries entries parts
none_batched old kernel entries parts none = record {
  done = [];
  cut = refl;
  number = refl;
  writes = record { done = []; parts = ap (λ ps. parts_together ps ++ journal_frames kernel 1 entries) (sym none); adds = Adds-none old };
}

pub more_batched : (old mid new : Option (List ℕ)) (kernel running next : ℕ) (entries rest batch more : List Entry) (parts made : List (List ℕ)) → Batched old mid kernel running entries rest parts
    → rest ≡ batch ++ more → next ≡ running + sum_by entry_length batch
    → WritesSoFar mid new (parts_together parts ++ journal_frames kernel running batch) (parts_together made) → Batched old new kernel next entries more made
more_batched old mid new kernel running next entries rest batch more parts made b is after step =
    let sums = sum_by-append entry_length b.done batch in
    record {
      done = b.done ++ batch;
      cut = b.cut ∙ ap (λ es. b.done ++ es) is ∙ sym (append_assoc b.done batch more);
      number = omega (arith, b.number, after, sums);
      writes = gathered_on old mid new (journal_frames kernel 1 entries) (journal_frames kernel running rest) (parts_together parts) (parts_together made) (journal_frames kernel running batch)
          (journal_frames kernel next more) b.writes (batches_append kernel running next rest batch more is after) step;
    }

-- all that waits is written
pub all_batched : (old mid new : Option (List ℕ)) (kernel running : ℕ) (entries rest : List Entry) (parts : List (List ℕ)) → Batched old mid kernel running entries rest parts → rest ≡ []
    → Adds mid new (parts_together parts) → Adds old new (journal_frames kernel 1 entries)
all_batched old mid new kernel running entries rest parts b none adds =
    let left : List ℕ = journal_frames kernel running rest in
    all_written old new (journal_frames kernel 1 entries) left (piece_written old mid new (journal_frames kernel 1 entries) (parts_together parts ++ left) (parts_together parts) left b.writes refl adds)
    (ap (journal_frames kernel running) none ∙ entry_end kernel running)

-- or only the first bytes of it
pub front_batched : (old mid new : Option (List ℕ)) (kernel running : ℕ) (entries rest : List Entry) (parts : List (List ℕ)) → Batched old mid kernel running entries rest parts
    → AddsFront mid new (parts_together parts) → AddsFront old new (journal_frames kernel 1 entries)
front_batched old mid new kernel running entries rest parts b front =
    let left : List ℕ = journal_frames kernel running rest in
    front_written old mid new (journal_frames kernel 1 entries) (parts_together parts ++ left) (parts_together parts) left b.writes refl front

-- or of it and the next batch
pub next_front : (old mid new : Option (List ℕ)) (kernel running : ℕ) (entries rest batch more : List Entry) (parts : List (List ℕ)) → Batched old mid kernel running entries rest parts
    → rest ≡ batch ++ more → AddsFront mid new (parts_together parts ++ journal_frames kernel running batch) → AddsFront old new (journal_frames kernel 1 entries)
next_front old mid new kernel running entries rest batch more parts b is front =
    let next : ℕ = running + sum_by entry_length batch in
    gathered_front old mid new (journal_frames kernel 1 entries) (journal_frames kernel running rest) (parts_together parts) (journal_frames kernel running batch) (journal_frames kernel next more) b.writes
    (batches_append kernel running next rest batch more is refl) front

-- memory runs out at an entry of the next batch
pub stops_in_batch : (old mid new : Option (List ℕ)) (kernel running : ℕ) (entries rest batch more : List Entry) (parts : List (List ℕ)) → Batched old mid kernel running entries rest parts
    → rest ≡ batch ++ more → AddsBatchBefore mid new (parts_together parts) kernel running batch → AddsEntriesBefore old new kernel entries
stops_in_batch old mid new kernel running entries rest batch more parts b is (between, waited, s) =
    let all = batches_append kernel 1 running entries b.done rest b.cut b.number in
    let first = gathered_is old mid between (journal_frames kernel 1 entries) (journal_frames kernel 1 b.done) (parts_together parts) (journal_frames kernel running rest) b.writes all waited in
    record {
      before = b.done ++ s.before;
      failed = s.failed;
      later = s.later ++ more;
      parts = b.cut ∙ ap (λ es. b.done ++ es) (is ∙ ap (λ es. es ++ more) s.parts ∙ append_assoc s.before (s.failed ∷ s.later) more) ∙ sym (append_assoc b.done s.before (s.failed ∷ (s.later ++ more)));
      adds = subst (Adds old new) (sym (batches_append kernel 1 running (b.done ++ s.before) b.done s.before refl b.number))
          (Adds-both old between new (journal_frames kernel 1 b.done) (journal_frames kernel running s.before) first s.adds);
    }
