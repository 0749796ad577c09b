use Rattle.std.proofs.Common.{◌≡◌, true, false, ◌∙◌}
use Rattle.serde_json.specs.View.{view}
use Rattle.jupyter_messages.proofs.Texts.{message_in-value, message_in-none}
use Rattle.jupyter_messages.proofs.read.read_message.Goals as goal

pub returns-in-Ok : goal.returns-in-Ok
returns-in-Ok c = λ told.
    message_in-value c.args.bytes.now (view c.in-Ok.value) c.in-Ok.ensures.ok.0 c.in-Ok.ensures.ok.1 ∙ c.message_of.ensures told

pub returns-else-is_memory : goal.returns-else-is_memory
returns-else-is_memory c = λ _.
    message_in-none c.args.bytes.now (λ text. c.in-Err.ensures.err (λ memory. let never : false ≡ true = c.if-is_memory.ensures.1 memory in cc) text)
