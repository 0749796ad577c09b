-- What tokens are.
use Rattle.std.specs.Prelude.{List, map}
use Rattle.py_token.specs.declared.kinds.Kind.{Kind}
use Rattle.py_token.specs.declared.kinds.Token.{Token}

abbrev pub kinds : List Token → List Kind
kinds tokens = map (λ token. token.kind) tokens
