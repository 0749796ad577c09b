-- What a desk and the errors so far stand for.
use Rattle.std.specs.Prelude.{◌≡◌, ℕ, List, ◌++◌, Result}
use Rattle.jupyter_messages.specs.declared.message.Message.{Message}
use Rattle.jupyter_messages.specs.declared.fault.MessageFault.{MessageFault}
use Rattle.node_intake.specs.Intake.{Taken, Node, with_messages}
use Rattle.node_intake.specs.Sessions.{AreApart}
use Rattle.reply_frames.specs.declared.node.NodeError.{NodeError}
use Rattle.node_intake.specs.declared.node.Intake.{Intake}

module _ {D : Type 0} (Holds : D → List Taken → Type 0) where
  -- the desk has this node's sessions, which are of kernels apart, and the errors are its errors
  pub record StandsFor (n : Intake D) (node : Node) : Type 0 where
    pub sessions : Holds n.desk node.sessions
    pub errors : n.errors.items ≡ node.errors
    pub apart : AreApart node.sessions

  -- whatever node it stood for, now it stands for what this step makes of that node
  abbrev pub Becomes : (Node → Node) → Intake D → Intake D → Type 0
  Becomes step old new = (node : Node) → StandsFor old node → StandsFor new (step node)

  -- whatever node it stood for, now it stands for that node with the first of these messages more
  pub record BecomesFront (hosts : ℕ) (all : List (Result Message MessageFault)) (old new : Intake D) : Type 0 where
    pub front : List (Result Message MessageFault)
    pub later : List (Result Message MessageFault)
    pub parts : all ≡ front ++ later
    pub becomes : Becomes (λ node. with_messages hosts node front) old new

module _ {D : Type 0} (Keeps : D → D → Type 0) where
  -- the errors so far are the first of those then, and what a desk keeps is kept
  pub record HasKept (old new : Intake D) : Type 0 where
    pub desk : Keeps old.desk new.desk
    pub errors : (more : List NodeError) × (new.errors.items ≡ old.errors.items ++ more)
