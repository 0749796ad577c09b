use Rattle.py_token.proofs.Misfit.{misfit_or_shifts, shifts_once, misfit_never, shifts_descend}
use Rattle.py_token.proofs.indentation.each_depth_shifts_once_or_misfits.Goals as goal

pub returns : goal.returns
returns c = record {
  each = λ depth stack h. misfit_or_shifts depth stack h;
  once = λ depth stack after other markers others h k. shifts_once depth stack after other markers others h k;
  not_both = λ depth stack after markers h k. misfit_never depth stack after markers h k;
  descends = λ depth stack after markers h k. shifts_descend depth stack after markers k h;
}
