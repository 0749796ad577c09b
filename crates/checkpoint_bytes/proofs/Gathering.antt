-- The table of a checkpoint's texts, as it grows.
use Rattle.std.proofs.Common.{◌≡◌, ℕ, ◌+◌, ◌<◌, List, [], ◌∷◌, ◌++◌, length, get_or, take, map, ap, sym, ◌∙◌}
use Rattle.std.proofs.lemmas.List.{map-append, take_more}
use Rattle.graph_model.specs.declared.graph.CellRecord.{CellRecord}
use Rattle.graph_model.specs.declared.graph.Version.{Version}
use Rattle.graph_model.specs.declared.graph.Graph.{Graph}
use Rattle.graph_model.specs.declared.plan.Plan.{Plan}
use Rattle.py_heap.specs.declared.state.State.{State}
use Rattle.part_bytes.specs.Tables.{with_text, with_texts}
use Rattle.part_bytes.proofs.Tables.{with_more}
use Rattle.checkpoint_bytes.specs.Texts.{each_from, codes_of, copied_texts, table_of}
use Rattle.checkpoint_bytes.proofs.Items.{next_from}

-- texts that are put after the others
grown : (old now next first more all : List (List ℕ)) → now ≡ with_texts old first → next ≡ with_texts now more → all ≡ first ++ more → next ≡ with_texts old all
grown old now next first more all e k is =
    k ∙ (ap (λ (t : List (List ℕ)). with_texts t more) e ∙ (sym (with_more old first more) ∙ ap (with_texts old) (sym is)))

pub one_code_more : (old now next : List (List ℕ)) (cells : List CellRecord) (i : ℕ) (x : CellRecord) → i < length cells → x ≡ get_or cells i x
    → now ≡ with_texts old (codes_of (take i cells)) → next ≡ with_text now x.code → next ≡ with_texts old (codes_of (take (i + 1) cells))
one_code_more old now next cells i x l is e k =
    let front : take (i + 1) cells ≡ take i cells ++ x ∷ [] = take_more cells i x l ∙ ap (λ (y : CellRecord). take i cells ++ y ∷ []) (sym is) in
    grown old now next (codes_of (take i cells)) (x.code ∷ []) (codes_of (take (i + 1) cells)) e k
    (ap codes_of front ∙ map-append (λ (cell : CellRecord). cell.code) (take i cells) (x ∷ []))

pub one_version_more : (s : State) (p : Plan) (old now next : List (List ℕ)) (versions : List Version) (i : ℕ) (x : Version) → i < length versions → x ≡ get_or versions i x
    → now ≡ with_texts old (each_from (copied_texts s p) 1 (take i versions)) → next ≡ with_texts now (copied_texts s p (i + 1) x)
    → next ≡ with_texts old (each_from (copied_texts s p) 1 (take (i + 1) versions))
one_version_more s p old now next versions i x l is e k =
    grown old now next (each_from (copied_texts s p) 1 (take i versions)) (copied_texts s p (i + 1) x) (each_from (copied_texts s p) 1 (take (i + 1) versions)) e k
    (next_from (copied_texts s p) versions i x l is)

pub whole_table : (s : State) (g : Graph) (p : Plan) (none coded all : List (List ℕ)) (cells : List CellRecord) (versions : List Version)
    → none ≡ [] → cells ≡ g.cells → versions ≡ g.versions → coded ≡ with_texts none (codes_of cells) → all ≡ with_texts coded (each_from (copied_texts s p) 1 versions)
    → all ≡ table_of s g p
whole_table s g p none coded all cells versions n c v e k =
    k ∙ (ap (λ (xs : List Version). with_texts coded (each_from (copied_texts s p) 1 xs)) v
    ∙ (ap (λ (t : List (List ℕ)). with_texts t (each_from (copied_texts s p) 1 g.versions)) (e ∙ (ap (λ (t : List (List ℕ)). with_texts t (codes_of cells)) n ∙ ap (λ (xs : List CellRecord). with_texts [] (codes_of xs)) c))
    ∙ sym (with_more [] (codes_of g.cells) (each_from (copied_texts s p) 1 g.versions))))
