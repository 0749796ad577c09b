-- What the tokens of one function are judged as, by what is before them, their nesting and what is after them.
use Rattle.std.proofs.Common.{◌≡◌, ℕ, ◌<◌, ◌≤◌, Bool, true, false, nat_lt, if◌then◌else◌, List, [], ◌∷◌, ◌++◌, length, Ok, Err, IsUtf8, refl, ap, ◌∙◌, sym, subst, arith}
use Rattle.std.proofs.lemmas.Bool.{lt-ltb, le-ltb}
use Rattle.py_token.specs.declared.kinds.Token.{Token}
use Rattle.py_tree.specs.declared.statements.Def.{Def, roll-Def}
use Rattle.py_tree.specs.declared.statements.Stmt.{Stmt, out-Stmt}
use Rattle.py_tree.specs.declared.statements.Stmt.TheOpen.{Stmt-F}
use Rattle.py_tree.specs.declared.statements.Stmt.TheViews.{out-roll-Stmt}
use Rattle.py_tree.specs.declared.statements.Stmt.TheVariants as s
use Rattle.py_tree.specs.declared.statements.Arm.{Arm}
use Rattle.py_grammar.specs.States.{done}
use Rattle.py_grammar.specs.Trees.{tree_params, tree_block, tree_cell}
use Rattle.py_grammar.specs.Alone.{alone}
use Rattle.py_blocks.specs.Source.{source_of}
use Rattle.py_reader.specs.declared.fault.SyntaxFault.{SyntaxFault}
use Rattle.py_reader.specs.declared.fault.SyntaxFault.TheVariants.{NoParse}
use Rattle.py_reader.specs.declared.fault.ReadError.{ReadError}
use Rattle.py_reader.specs.declared.fault.ReadError.TheVariants.{OutOfMemory, Fault}
use Rattle.py_reader.specs.Verdicts.{start_of}
use Rattle.py_reader.specs.Verdict.{deepest_of, deep_fault, nested}
use Rattle.py_reader.specs.Definitions.{end_of_words, definition}
use Rattle.py_reader.specs.DefinitionVerdict.{JudgedDefinition, unless_more, unless_later, of_function, of_alone}
use Rattle.py_reader.specs.Gives.{Refuses}
use Rattle.py_reader.specs.Scans.{GivesStatements, AreFunction, GivesFunction}
use Rattle.py_reader.proofs.Final.{function_runs}
use Rattle.py_reader.proofs.Spanned.{whole_text}

-- ---- which of them comes first

later_on : (tokens : List Token) (judged : JudgedDefinition) (b : Bool) → nat_lt 0 (start_of tokens 0) ≡ b → unless_later tokens judged ≡ (if b then Err (NoParse 0 false) else judged)
later_on tokens judged b e = ap (λ x. if x then Err (NoParse 0 false) else judged) e

more_on : (code : List ℕ) (tokens : List Token) (judged : JudgedDefinition) (b : Bool) → nat_lt (end_of_words tokens) (length code) ≡ b → unless_more code tokens judged ≡ (if b then Err (NoParse (end_of_words tokens) false) else judged)
more_on code tokens judged b e = ap (λ x. if x then Err (NoParse (end_of_words tokens) false) else judged) e

lt-true : (m n k : ℕ) → m ≡ n → m < k → nat_lt n k ≡ true
lt-true m n k e l = lt-ltb n k (subst (λ x. x < k) e l)

lt-false : (m n k : ℕ) → m ≡ n → k ≤ m → nat_lt n k ≡ false
lt-false m n k e l = le-ltb n k (subst (λ x. k ≤ x) e l)

pos-true : (m n : ℕ) → m ≡ n → 0 < m → nat_lt 0 n ≡ true
pos-true m n e l = lt-ltb 0 n (subst (λ x. 0 < x) e l)

pos-false : (m n : ℕ) → m ≡ n → m ≤ 0 → nat_lt 0 n ≡ false
pos-false m n e l = le-ltb 0 n (subst (λ x. x ≤ 0) e l)

pub is_later : (code : List ℕ) (tokens : List Token) (start : ℕ) → start ≡ start_of tokens 0 → 0 < start → GivesFunction code tokens (Err (Fault (NoParse 0 false)))
is_later code tokens start is l f = later_on tokens _ true (pos-true start (start_of tokens 0) is l)

-- nothing comes before the function
first_of : (code : List ℕ) (tokens : List Token) (deep start : ℕ) (def : Def) → start ≡ start_of tokens 0 → start ≤ 0 → of_function code tokens deep def ≡ nested tokens deep (unless_more code tokens (Ok def))
first_of code tokens deep start def is l = later_on tokens _ false (pos-false start (start_of tokens 0) is l)

-- what is too deep is so whatever comes after it
deep_on : (tokens : List Token) (deep : ℕ) (body : List Stmt) (judged : JudgedDefinition) (fault : SyntaxFault) (b : Bool) → (if b then Err (deep_fault tokens deep) else Ok body) ≡ Err fault → (if b then Err (deep_fault tokens deep) else judged) ≡ Err fault
deep_on tokens deep body judged fault true e = let same : deep_fault tokens deep ≡ fault = cc in ap Err same
deep_on tokens deep body judged fault false e = cc

shallow_on : (tokens : List Token) (deep : ℕ) (body found : List Stmt) (judged : JudgedDefinition) (b : Bool) → (if b then Err (deep_fault tokens deep) else Ok body) ≡ Ok found → ((if b then Err (deep_fault tokens deep) else judged) ≡ judged) × (body ≡ found)
shallow_on tokens deep body found judged true e = let no : ⊥ = cc in absurd no
shallow_on tokens deep body found judged false e = let same : body ≡ found = cc in (refl, same)

refuses_so : (tokens : List Token) (deep : ℕ) (body : List Stmt) (judged : JudgedDefinition) (error : ReadError) → Refuses error (nested tokens deep (Ok body)) → Refuses error (nested tokens deep judged)
refuses_so tokens deep body judged OutOfMemory r = tt
refuses_so tokens deep body judged (Fault fault) r = deep_on tokens deep body judged fault (nat_lt 0 deep) r

same-refusal : (error : ReadError) (a b : JudgedDefinition) → a ≡ b → Refuses error b → Refuses error a
same-refusal OutOfMemory a b e r = tt
same-refusal (Fault fault) a b e r = e ∙ r

pub is_refused : (code : List ℕ) (tokens : List Token) (start : ℕ) (error : ReadError) → start ≡ start_of tokens 0 → start ≤ 0 → GivesStatements true code tokens (Err error) → GivesFunction code tokens (Err error)
is_refused code tokens start error is l g f =
    let c = alone f.called f.takes f.block in
    same-refusal error _ _ (first_of code tokens (deepest_of tokens (done c) []) start (definition code f.called f.takes f.block) is l)
    (refuses_so tokens (deepest_of tokens (done c) []) _ _ error (g c (function_runs code tokens f)))

-- ---- the function that has been read

abbrev tree_of : (code : List ℕ) (tokens : List Token) → AreFunction code tokens → List Stmt
tree_of code tokens f = tree_cell (source_of code tokens) (alone f.called f.takes f.block)

-- no part is too deep, and these are its statements
pub are_statements : (code : List ℕ) (tokens : List Token) (start : ℕ) (body : List Stmt) → (f : AreFunction code tokens) → start ≡ start_of tokens 0 → start ≤ 0 → GivesStatements true code tokens (Ok body)
    → (of_alone code tokens (done (alone f.called f.takes f.block)) ≡ unless_more code tokens (Ok (definition code f.called f.takes f.block))) × (tree_of code tokens f ≡ body)
are_statements code tokens start body f is l g =
    let c = alone f.called f.takes f.block in
    let judged : JudgedDefinition = unless_more code tokens (Ok (definition code f.called f.takes f.block)) in
    let s = shallow_on tokens (deepest_of tokens (done c) []) (tree_of code tokens f) body judged (nat_lt 0 (deepest_of tokens (done c) [])) (g c (function_runs code tokens f)) in
    (first_of code tokens (deepest_of tokens (done c) []) start (definition code f.called f.takes f.block) is l ∙ s.0, s.1)

pub is_more : (code : List ℕ) (tokens : List Token) (start at : ℕ) (body : List Stmt) → start ≡ start_of tokens 0 → start ≤ 0 → GivesStatements true code tokens (Ok body) → at ≡ end_of_words tokens → at < length code
    → GivesFunction code tokens (Err (Fault (NoParse at false)))
is_more code tokens start at body is none g ends less f =
    (are_statements code tokens start body f is none g).0 ∙ more_on code tokens _ true (lt-true at (end_of_words tokens) (length code) ends less) ∙ ap (λ n. Err (NoParse n false)) (sym ends)

last_of : {A : Type 0} (x y : A) (xs : List A) → x ∷ [] ≡ xs ++ y ∷ [] → y ≡ x
last_of x y [] e = cc
last_of x y (a ∷ []) e = cc
last_of x y (a ∷ b ∷ xs) e = cc

opened : (def : Def) → out-Stmt (s.Function def) ≡ Stmt-F.Function def
opened def = ap out-Stmt (sym (s.rolls-Function def)) ∙ out-roll-Stmt (Stmt-F.Function def)

same_function : (one other : Def) → s.Function one ≡ s.Function other → one ≡ other
same_function one other e = let same : ◌≡◌ {A = Stmt-F Stmt Arm Def} (Stmt-F.Function one) (Stmt-F.Function other) = sym (opened one) ∙ ap out-Stmt e ∙ opened other in cc

pub built_is : (code : List ℕ) (tokens : List Token) (start at : ℕ) (body : List Stmt) → (f : AreFunction code tokens) → IsUtf8 code → start ≡ start_of tokens 0 → start ≤ 0 → GivesStatements true code tokens (Ok body)
    → at ≡ end_of_words tokens → length code ≤ at → s.Function (definition code f.called f.takes f.block) ∷ [] ≡ body
built_is code tokens start at body f utf8 is none g ends enough =
    ap (λ text. s.Function (roll-Def (record { name = f.called; params = tree_params f.takes; body = tree_block f.block; source = text })) ∷ [])
    (sym (whole_text code tokens f.called f.takes f.block utf8 f.of_text f.is_definition (let first : start_of tokens 0 ≡ 0 = omega (arith, is, none) in first) (omega (arith, ends, enough))))
    ∙ (are_statements code tokens start body f is none g).1

pub last_is : (code : List ℕ) (tokens : List Token) (start at : ℕ) (body front : List Stmt) (last : Stmt) → (f : AreFunction code tokens) → IsUtf8 code → start ≡ start_of tokens 0 → start ≤ 0 → GivesStatements true code tokens (Ok body)
    → at ≡ end_of_words tokens → length code ≤ at → body ≡ front ++ last ∷ [] → last ≡ s.Function (definition code f.called f.takes f.block)
last_is code tokens start at body front last f utf8 is none g ends enough e = last_of _ last front (built_is code tokens start at body f utf8 is none g ends enough ∙ e)

-- what is read if nothing is before it, is too deep or is after it
pub is_whole : (code : List ℕ) (tokens : List Token) (start at : ℕ) (body front : List Stmt) (last : Stmt) (def : Def) → IsUtf8 code → start ≡ start_of tokens 0 → start ≤ 0 → GivesStatements true code tokens (Ok body)
    → at ≡ end_of_words tokens → length code ≤ at → body ≡ front ++ last ∷ [] → last ≡ s.Function def → GivesFunction code tokens (Ok def)
is_whole code tokens start at body front last def utf8 is none g ends enough e function f =
    (are_statements code tokens start body f is none g).0 ∙ more_on code tokens _ false (lt-false at (end_of_words tokens) (length code) ends enough)
    ∙ ap Ok (sym (same_function def (definition code f.called f.takes f.block) (sym function ∙ last_is code tokens start at body front last f utf8 is none g ends enough e)))
