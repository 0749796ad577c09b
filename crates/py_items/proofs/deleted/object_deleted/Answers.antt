use Rattle.py_ops.proofs.Compared.{seen}
use Rattle.py_items.proofs.Found.{deleted_in_list, deleted_in_dict}
use Rattle.py_items.proofs.deleted.object_deleted.Goals as goal

pub returns-in-Some-List-clause-runs : goal.returns-in-Some-List-clause-runs
returns-in-Some-List-clause-runs c = λ draws told.
    deleted_in_list c.args.address c.args.at.now draws c.args.machine.now _ _ (seen c.in-Some-List.ensures c.in-Some-List.field-0-is) (c.list_deleted.ensures.runs draws told)

pub returns-in-Some-Dict-clause-runs : goal.returns-in-Some-Dict-clause-runs
returns-in-Some-Dict-clause-runs c = λ draws told.
    deleted_in_dict c.args.address c.args.at.now draws c.args.machine.now _ _ (seen c.in-Some-Dict.ensures c.in-Some-Dict.field-0-is) (c.dict_deleted.ensures.runs draws told)
