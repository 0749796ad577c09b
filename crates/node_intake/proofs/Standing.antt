-- A desk, and the node that it stands for.
use Rattle.std.proofs.Common.{◌≡◌, ℕ, List, ◌∷◌, [], ◌++◌, Some, None, Result, Ok, Err, refl, sym, ap, ◌∙◌, subst, append_assoc, append-nil}
use Rattle.std.specs.Prelude.{map, slice_get, slice_set, OnOk}
use Rattle.session_core.specs.declared.request.Request.{Request}
use Rattle.reply_frames.specs.declared.node.NodeError.{NodeError}
use Rattle.node_intake.specs.Intake.{Taken, Node, session_of, with_request}
use Rattle.node_intake.specs.Sessions.{IsAt, with_more}
use Rattle.node_intake.specs.declared.node.Intake.{Intake}
use Rattle.node_intake.specs.declared.session.Handed.{Handed}
use Rattle.node_intake.specs.Standing.{StandsFor, HasKept}
use Rattle.node_intake.proofs.Admitting.{apart_more, apart_with, request_at}

pub map_ok : {A E : Type 0} {P Q : Type 0} (r : Result A E) → (P → Q) → OnOk r P → OnOk r Q
map_ok (Ok a) f h = f h
map_ok (Err e) f h = tt

module _ {D : Type 0} (Holds : D → List Taken → Type 0) where
  pub as_handed : (n : Intake D) (h : Handed D) (node : Node) → StandsFor Holds n node → h.desk ≡ n.desk → h.errors ≡ n.errors.items → Holds h.desk node.sessions × (h.errors ≡ node.errors)
  as_handed n h node stands desk errors = (subst (λ d. Holds d node.sessions) (sym desk) stands.sessions, errors ∙ stands.errors)

  -- an error more
  pub failed_more : (old new : Intake D) (e : NodeError) (node : Node) → new.desk ≡ old.desk → new.errors.items ≡ old.errors.items ++ e ∷ [] → StandsFor Holds old node
      → StandsFor Holds new (record node { errors = node.errors ++ e ∷ [] })
  failed_more old new e node desk errors stands = record {
    sessions = subst (λ d. Holds d node.sessions) (sym desk) stands.sessions;
    errors = errors ∙ ap (λ es. es ++ e ∷ []) stands.errors;
    apart = stands.apart;
  }

  -- a session more
  pub opened_more : (old new : Intake D) (s : Taken) (node : Node) → ((ts : List Taken) → Holds old.desk ts → Holds new.desk (ts ++ s ∷ [])) → new.errors.items ≡ old.errors.items → StandsFor Holds old node
      → session_of s.kernel node.sessions ≡ None → StandsFor Holds new (record node { sessions = node.sessions ++ s ∷ [] })
  opened_more old new s node opens same stands none = record {
    sessions = opens node.sessions stands.sessions;
    errors = same ∙ stands.errors;
    apart = apart_more node.sessions s stands.apart none;
  }

  -- a request more
  pub asked_more : (old new : Intake D) (kernel at : ℕ) (r : Request) (node : Node)
      → ((ts : List Taken) (s : Taken) → Holds old.desk ts → slice_get ts at ≡ Some s → Holds new.desk (slice_set ts at (with_more s r))) → new.errors.items ≡ old.errors.items
      → StandsFor Holds old node → IsAt node.sessions kernel at → StandsFor Holds new (record node { sessions = map (with_request kernel r) node.sessions })
  asked_more old new kernel at r node admits same stands is = record {
    sessions = subst (Holds new.desk) (request_at kernel r node.sessions at is.session stands.apart is.is_there is.is_of) (admits node.sessions is.session stands.sessions is.is_there);
    errors = same ∙ stands.errors;
    apart = apart_with kernel r node.sessions stands.apart;
  }

module _ {D : Type 0} (Keeps : D → D → Type 0) where
  -- an error more
  pub kept_failed : (old new : Intake D) (e : NodeError) → ((d : D) → Keeps d d) → new.desk ≡ old.desk → new.errors.items ≡ old.errors.items ++ e ∷ [] → HasKept Keeps old new
  kept_failed old new e all desk errors = record { desk = subst (Keeps old.desk) (sym desk) (all old.desk); errors = (e ∷ [], errors) }

  -- no error more
  pub kept_same : (old new : Intake D) → Keeps old.desk new.desk → new.errors.items ≡ old.errors.items → HasKept Keeps old new
  kept_same old new kept errors = record { desk = kept; errors = ([], errors ∙ sym (append-nil old.errors.items)) }

  pub kept_all : (n : Intake D) → ((d : D) → Keeps d d) → HasKept Keeps n n
  kept_all n all = kept_same n n (all n.desk) refl

  pub kept_on : (a b c : Intake D) → ((d e f : D) → Keeps d e → Keeps e f → Keeps d f) → HasKept Keeps a b → HasKept Keeps b c → HasKept Keeps a c
  kept_on a b c on h k = record {
    desk = on a.desk b.desk c.desk h.desk k.desk;
    errors = (h.errors.0 ++ k.errors.0, k.errors.1 ∙ ap (λ es. es ++ k.errors.0) h.errors.1 ∙ append_assoc a.errors.items h.errors.0 k.errors.0);
  }
