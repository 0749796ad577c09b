use Rattle.std.proofs.Common.{Bool, IsTrue}
use Rattle.py_tree.specs.declared.statements.Def.{Def}
use Rattle.py_heap.proofs.Validity.{empty_valid, count_valid, meter_valid, bind_valid, unbind_valid, add_valid, set_valid, push_valid, extend_valid, insert_valid, remove_valid, clear_valid, put_valid, remove_key_valid, clear_dict_valid, uses_valid}
use Rattle.py_heap.proofs.laws.operations_keep_valid.Goals as goal

abbrev Passes : (Def → Bool) → Def → Type 0
Passes test def = IsTrue (test def)

pub returns-clause-new : goal.returns-clause-new
returns-clause-new c = λ test. empty_valid (Passes test)

pub returns-clause-set_count : goal.returns-clause-set_count
returns-clause-set_count c = λ test s n v. count_valid (Passes test) s n v

pub returns-clause-set_meter : goal.returns-clause-set_meter
returns-clause-set_meter c = λ test s n v l. meter_valid (Passes test) s n v l

pub returns-clause-bind : goal.returns-clause-bind
returns-clause-bind c = λ test s name value v n l. bind_valid (Passes test) s name value v n l

pub returns-clause-unbind : goal.returns-clause-unbind
returns-clause-unbind c = λ test s name v. unbind_valid (Passes test) s name v

pub returns-clause-add : goal.returns-clause-add
returns-clause-add c = λ test s new v l o. add_valid (Passes test) s new v l o

pub returns-clause-set_item : goal.returns-clause-set_item
returns-clause-set_item c = λ test s at index value v l. set_valid (Passes test) s at v index value l

pub returns-clause-push_item : goal.returns-clause-push_item
returns-clause-push_item c = λ test s at value v l. push_valid (Passes test) s at v value l

pub returns-clause-extend_items : goal.returns-clause-extend_items
returns-clause-extend_items c = λ test s at more v l. extend_valid (Passes test) s at v more l

pub returns-clause-insert_item : goal.returns-clause-insert_item
returns-clause-insert_item c = λ test s at index value v l. insert_valid (Passes test) s at v index value l

pub returns-clause-remove_item : goal.returns-clause-remove_item
returns-clause-remove_item c = λ test s at index v. remove_valid (Passes test) s at v index

pub returns-clause-put_key : goal.returns-clause-put_key
returns-clause-put_key c = λ test s at key value v l. put_valid (Passes test) s at v key value l

pub returns-clause-remove_key : goal.returns-clause-remove_key
returns-clause-remove_key c = λ test s at key v. remove_key_valid (Passes test) s at v key

pub returns-clause-clear_list : goal.returns-clause-clear_list
returns-clause-clear_list c = λ test s at v. clear_valid (Passes test) s at v

pub returns-clause-clear_dict : goal.returns-clause-clear_dict
returns-clause-clear_dict c = λ test s at v. clear_dict_valid (Passes test) s at v

pub returns-clause-raise_uses : goal.returns-clause-raise_uses
returns-clause-raise_uses c = λ test s at uses v. uses_valid (Passes test) s at v uses
