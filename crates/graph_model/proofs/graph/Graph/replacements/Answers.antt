use Rattle.std.proofs.Common.{◌≡◌, ℕ, ◌≤◌, Option, None, Some, length, sym, subst, arith}
use Rattle.std.specs.Prelude.{MatchOption}
use Rattle.std.specs.FinMap as finite
use Rattle.flow_model.specs.First.{IsFirst}
use Rattle.graph_model.specs.declared.graph.Graph.{Graph}
use Rattle.graph_model.specs.Faults.{HasBadWriter, IsTwoActive, Never}
use Rattle.graph_model.specs.Walks.{NameIndex, IsIndex, IsLeastClash}
use Rattle.graph_model.proofs.Indexing.{no_index, no_clash, never_two, first_two}
use Rattle.graph_model.proofs.graph.Graph.replacements.Goals as goal

empty_index : (g : Graph) (v : ℕ) (index : NameIndex) → length g.versions ≤ v → index ≡ finite.empty → IsIndex g v index
empty_index g v index l e = subst (λ m. IsIndex g v m) (sym e) (no_index g v l)

least : (g : Graph) → Never (HasBadWriter g) → (v : ℕ) (o : Option ℕ) → v ≡ 0 → IsLeastClash g v o → MatchOption o (Never (IsTwoActive g)) (λ n. IsFirst (IsTwoActive g) n)
least g w v None e h = never_two g w (subst (λ n. IsLeastClash g n None) e h)
least g w v (Some u) e h = first_two g w u (subst (λ n. IsLeastClash g n (Some u)) e h)

pub loop-v-init : goal.loop-v-init
loop-v-init c = record {
  index = empty_index c.args.self.now c.version_count-v.result c.new.result (let e = c.version_count-v.ensures in omega arith) c.new.ensures;
  clash = no_clash c.args.self.now c.version_count-v.result (let e = c.version_count-v.ensures in omega arith);
}

pub returns-clause-index : goal.returns-clause-index
returns-clause-index c =
    let z : c.loop-v.v ≡ 0 = (let t = c.loop-v-test.false in omega arith) in
    subst (λ n. IsIndex c.args.self.now n c.loop-v.found.index) z c.loop-v.invariant.index

pub returns-clause-clash : goal.returns-clause-clash
returns-clause-clash c =
    let z : c.loop-v.v ≡ 0 = (let t = c.loop-v-test.false in omega arith) in
    least c.args.self.now c.requires.writers c.loop-v.v c.loop-v.found.clash z c.loop-v.invariant.clash
