use Rattle.py_laws.proofs.Sounding as sounding
use Rattle.py_laws.proofs.runs.runs_keep_machines_sound.Goals as goal

pub returns-clause-operators : goal.returns-clause-operators
returns-clause-operators c = λ test o left right bodies. sounding.operators test bodies o left right

pub returns-clause-augmentations : goal.returns-clause-augmentations
returns-clause-augmentations c = λ test o left right bodies. sounding.augmentations test bodies o left right

pub returns-clause-comparisons : goal.returns-clause-comparisons
returns-clause-comparisons c = λ test levels o left right bodies. sounding.comparisons test bodies levels o left right

pub returns-clause-indexes : goal.returns-clause-indexes
returns-clause-indexes c = λ test of at bodies. sounding.indexes test bodies of at

pub returns-clause-slices : goal.returns-clause-slices
returns-clause-slices c = λ test of from to bodies. sounding.slices test bodies of from to

pub returns-clause-stores : goal.returns-clause-stores
returns-clause-stores c = λ test on at held bodies. sounding.stores test bodies on at held

pub returns-clause-deletions : goal.returns-clause-deletions
returns-clause-deletions c = λ test on at bodies. sounding.deletions test bodies on at

pub returns-clause-fills : goal.returns-clause-fills
returns-clause-fills c = λ test at pairs bodies. sounding.fills test bodies at pairs

pub returns-clause-extensions : goal.returns-clause-extensions
returns-clause-extensions c = λ test at more bodies. sounding.extensions test bodies at more

pub returns-clause-methods : goal.returns-clause-methods
returns-clause-methods c = λ test method args bodies. sounding.methods test bodies method args

pub returns-clause-handles : goal.returns-clause-handles
returns-clause-handles c = λ test args bodies. sounding.handles test bodies args

pub returns-clause-tells : goal.returns-clause-tells
returns-clause-tells c = λ test args bodies. sounding.tells test bodies args

pub returns-clause-starts : goal.returns-clause-starts
returns-clause-starts c = sounding.starts

pub returns-clause-results : goal.returns-clause-results
returns-clause-results c = λ test held bodies. sounding.results test bodies held

pub returns-clause-calls : goal.returns-clause-calls
returns-clause-calls c = λ test levels callee args bodies. sounding.calls test bodies levels callee args

pub returns-clause-expressions : goal.returns-clause-expressions
returns-clause-expressions c = λ test levels e bodies. sounding.expressions test bodies levels e

pub returns-clause-statements : goal.returns-clause-statements
returns-clause-statements c = λ test levels s bodies allowed. sounding.statements test bodies levels s allowed

pub returns-clause-cells : goal.returns-clause-cells
returns-clause-cells c = λ test body bodies allowed. sounding.cells test bodies body allowed

pub returns-clause-sequences : goal.returns-clause-sequences
returns-clause-sequences c = λ test kind items bodies. sounding.sequences test bodies kind items

pub returns-clause-texts : goal.returns-clause-texts
returns-clause-texts c = λ test text bodies. sounding.texts test bodies text

pub returns-clause-puts : goal.returns-clause-puts
returns-clause-puts c = λ test at key held bodies. sounding.puts test bodies at key held
