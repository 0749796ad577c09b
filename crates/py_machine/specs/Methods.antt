-- The methods of lists, dicts and texts by their names.
use Rattle.std.specs.Prelude.{ℕ, List, Option, Some, None, codes, if◌then◌else◌}
use Rattle.py_names.specs.Names.{same_text}
use Rattle.py_machine.specs.declared.method.ListMethod.{ListMethod}
use Rattle.py_machine.specs.declared.method.ListMethod.TheVariants as of_list
use Rattle.py_machine.specs.declared.method.DictMethod.{DictMethod}
use Rattle.py_machine.specs.declared.method.DictMethod.TheVariants as of_dict
use Rattle.py_machine.specs.declared.method.TextMethod.{TextMethod}
use Rattle.py_machine.specs.declared.method.TextMethod.TheVariants as of_text

unfoldable pub list_method_named : List ℕ → Option ListMethod
list_method_named name =
    if same_text name (codes "append") then Some of_list.Append
    else if same_text name (codes "insert") then Some of_list.Insert
    else if same_text name (codes "pop") then Some of_list.Pop
    else if same_text name (codes "extend") then Some of_list.Extend
    else if same_text name (codes "clear") then Some of_list.Clear
    else None

unfoldable pub dict_method_named : List ℕ → Option DictMethod
dict_method_named name =
    if same_text name (codes "get") then Some of_dict.Get
    else if same_text name (codes "pop") then Some of_dict.Pop
    else if same_text name (codes "clear") then Some of_dict.Clear
    else None

unfoldable pub text_method_named : List ℕ → Option TextMethod
text_method_named name =
    if same_text name (codes "join") then Some of_text.Join
    else if same_text name (codes "split") then Some of_text.Split
    else if same_text name (codes "startswith") then Some of_text.StartsWith
    else if same_text name (codes "endswith") then Some of_text.EndsWith
    else None

abbrev pub list_method_name : ListMethod → List ℕ
list_method_name of_list.Append = codes "append"
list_method_name of_list.Insert = codes "insert"
list_method_name of_list.Pop = codes "pop"
list_method_name of_list.Extend = codes "extend"
list_method_name of_list.Clear = codes "clear"

abbrev pub dict_method_name : DictMethod → List ℕ
dict_method_name of_dict.Get = codes "get"
dict_method_name of_dict.Pop = codes "pop"
dict_method_name of_dict.Clear = codes "clear"

abbrev pub text_method_name : TextMethod → List ℕ
text_method_name of_text.Join = codes "join"
text_method_name of_text.Split = codes "split"
text_method_name of_text.StartsWith = codes "startswith"
text_method_name of_text.EndsWith = codes "endswith"
