use Rattle.py_heap.proofs.Closed.{empty_closed, bind_closed, unbind_closed, add_closed, set_closed, push_closed, extend_closed, insert_closed, remove_closed, clear_closed, put_closed, remove_key_closed, clear_dict_closed, uses_closed}
use Rattle.py_heap.proofs.laws.operations_keep_closed.Goals as goal

pub returns-clause-new : goal.returns-clause-new
returns-clause-new c = empty_closed

pub returns-clause-bind : goal.returns-clause-bind
returns-clause-bind c = bind_closed

pub returns-clause-unbind : goal.returns-clause-unbind
returns-clause-unbind c = unbind_closed

pub returns-clause-add : goal.returns-clause-add
returns-clause-add c = add_closed

pub returns-clause-set_item : goal.returns-clause-set_item
returns-clause-set_item c = λ s at index value h. set_closed s at h index value

pub returns-clause-push_item : goal.returns-clause-push_item
returns-clause-push_item c = λ s at value h. push_closed s at h value

pub returns-clause-extend_items : goal.returns-clause-extend_items
returns-clause-extend_items c = λ s at more h l. extend_closed s at h more l

pub returns-clause-insert_item : goal.returns-clause-insert_item
returns-clause-insert_item c = λ s at index value h. insert_closed s at h index value

pub returns-clause-remove_item : goal.returns-clause-remove_item
returns-clause-remove_item c = λ s at index h. remove_closed s at h index

pub returns-clause-put_key : goal.returns-clause-put_key
returns-clause-put_key c = λ s at key value h. put_closed s at h key value

pub returns-clause-remove_key : goal.returns-clause-remove_key
returns-clause-remove_key c = λ s at key h. remove_key_closed s at h key

pub returns-clause-clear_list : goal.returns-clause-clear_list
returns-clause-clear_list c = clear_closed

pub returns-clause-clear_dict : goal.returns-clause-clear_dict
returns-clause-clear_dict c = clear_dict_closed

pub returns-clause-raise_uses : goal.returns-clause-raise_uses
returns-clause-raise_uses c = λ s at uses h. uses_closed s at h uses
