-- What a fault says.
use Rattle.std.specs.Prelude.{ℕ, List, ◌++◌, codes}
use Rattle.jupyter_messages.specs.declared.fault.MessageFault.{MessageFault}
use Rattle.jupyter_messages.specs.declared.fault.MessageFault.TheVariants.{OutOfMemory, NotJson, NoField, WrongKind, BadUuid, UnknownType}

abbrev pub fault_text : MessageFault → List ℕ
fault_text OutOfMemory = codes "out of memory"
fault_text NotJson = codes "no JSON"
fault_text (NoField name) = codes "no field " ++ name
fault_text (WrongKind name) = codes "wrong kind " ++ name
fault_text BadUuid = codes "bad UUID"
fault_text (UnknownType name) = codes "unknown type " ++ name
