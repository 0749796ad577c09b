-- Lists in messages have no floats, and neither do their pieces.
use Rattle.std.proofs.Common.{◌≡◌, ℕ, zero, suc, Bool, false, List, [], ◌∷◌, ◌++◌, refl, sym, subst}
use Rattle.std.specs.Prelude.{map, take, drop, codes}
use Rattle.std.proofs.lemmas.Bool.{or_parts, or_from}
use Rattle.std.proofs.lemmas.List.{take-map, drop-map}
use Rattle.serde_json.specs.Data.{Data, string}
use Rattle.serde_json.specs.Written.{has_float, items_have_float}
use Rattle.serde_json.specs.View.{view, items_of}
use Rattle.serde_json.specs.declared.value.Value.{Value}
use Rattle.graph_model.specs.declared.plan.Plan.{Plan}
use Rattle.graph_model.specs.declared.plan.FlowArc.{FlowArc}
use Rattle.session_core.specs.declared.reply.Completion.{Completion}
use Rattle.session_core.specs.declared.reply.Completion.TheVariants as completion
use Rattle.session_core.specs.declared.entry.MoveRefusal.{MoveRefusal}
use Rattle.session_core.specs.declared.entry.MoveRefusal.TheVariants as refusal
use Rattle.reply_frames.specs.Replies.{step, steps, arc_said, completion_content, shutdown_content, stuck_content, stayed_content, refused_content}

front_no_float : (n : ℕ) (ds : List Data) → items_have_float (items_of ds) ≡ false → items_have_float (items_of (take n ds)) ≡ false
front_no_float zero ds none = refl
front_no_float (suc n) [] none = refl
front_no_float (suc n) (d ∷ ds) none =
    let both = or_parts (has_float d) (items_have_float (items_of ds)) none in
    or_from (has_float d) _ both.0 (front_no_float n ds both.1)

back_no_float : (n : ℕ) (ds : List Data) → items_have_float (items_of ds) ≡ false → items_have_float (items_of (drop n ds)) ≡ false
back_no_float zero ds none = none
back_no_float (suc n) [] none = refl
back_no_float (suc n) (d ∷ ds) none = back_no_float n ds (or_parts (has_float d) (items_have_float (items_of ds)) none).1

pub chunk_no_float : (n : ℕ) (vs chunk : List Value) → chunk ≡ take n vs → items_have_float (items_of (map view vs)) ≡ false → items_have_float (items_of (map view chunk)) ≡ false
chunk_no_float n vs chunk is none =
    subst (λ ws. items_have_float (items_of (map view ws)) ≡ false) (sym is)
    (subst (λ ds. items_have_float (items_of ds) ≡ false) (take-map view n vs) (front_no_float n (map view vs) none))

pub rest_no_float : (n : ℕ) (vs rest : List Value) → rest ≡ drop n vs → items_have_float (items_of (map view vs)) ≡ false → items_have_float (items_of (map view rest)) ≡ false
rest_no_float n vs rest is none =
    subst (λ ws. items_have_float (items_of (map view ws)) ≡ false) (sym is)
    (subst (λ ds. items_have_float (items_of ds) ≡ false) (drop-map view n vs) (back_no_float n (map view vs) none))

map_no_float : {X : Type 0} (f : X → Data) → ((x : X) → has_float (f x) ≡ false) → (xs : List X) → items_have_float (items_of (map f xs)) ≡ false
map_no_float f each [] = refl
map_no_float f each (x ∷ xs) = or_from (has_float (f x)) _ (each x) (map_no_float f each xs)

both_no_float : (xs ys : List Data) → items_have_float (items_of xs) ≡ false → items_have_float (items_of ys) ≡ false → items_have_float (items_of (xs ++ ys)) ≡ false
both_no_float [] ys first second = second
both_no_float (x ∷ xs) ys first second =
    let chunks = or_parts (has_float x) (items_have_float (items_of xs)) first in
    or_from (has_float x) _ chunks.0 (both_no_float xs ys chunks.1 second)

pub steps_no_float : (plan : Plan) → items_have_float (items_of (steps plan)) ≡ false
unfolding steps step
steps_no_float plan = both_no_float (map (step (codes "copy")) plan.copied) _ (map_no_float (step (codes "copy")) (λ n. refl) plan.copied) (map_no_float (step (codes "run")) (λ n. refl) plan.rerun)

pub arcs_no_float : (arcs : List FlowArc) → items_have_float (items_of (map arc_said arcs)) ≡ false
unfolding arc_said
arcs_no_float arcs = map_no_float arc_said (λ arc. refl) arcs

pub names_no_float : (names : List (List ℕ)) → items_have_float (items_of (map string names)) ≡ false
names_no_float names = map_no_float string (λ name. refl) names

pub completion_no_float : (completion : Completion) → has_float (completion_content completion) ≡ false
unfolding completion_content
completion_no_float completion.Complete = refl
completion_no_float (completion.Incomplete indent) = refl
completion_no_float completion.Invalid = refl

pub shutdown_no_float : (restart : Bool) → has_float (shutdown_content restart) ≡ false
unfolding shutdown_content
shutdown_no_float restart = refl

stuck_no_float : (version cell : ℕ) (names : List (List ℕ)) → has_float (stuck_content version cell names) ≡ false
unfolding stuck_content
stuck_no_float version cell names = rw (names_no_float (take 1000 names)) refl

stayed_no_float : (name text : List ℕ) → has_float (stayed_content name text) ≡ false
unfolding stayed_content
stayed_no_float name text = refl

pub refused_no_float : (owner : ℕ) (reason : MoveRefusal) → has_float (refused_content owner reason) ≡ false
unfolding refused_content
refused_no_float owner (refusal.Stuck version cell names) = stuck_no_float version cell names
refused_no_float owner refusal.SameHost = stayed_no_float _ _
refused_no_float owner (refusal.UnknownHost host) = stayed_no_float _ _
refused_no_float owner (refusal.BadWeights fault) = stayed_no_float _ _
refused_no_float owner refusal.DeadKernel = stayed_no_float _ _
