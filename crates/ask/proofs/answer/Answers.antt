use Rattle.located.proofs.Zeros.{zeros, zeros-kept}
use Rattle.ask.proofs.answer.Goals as goal

pub slice_bounds-read_at-end-2 : goal.slice_bounds-read_at-end-2
slice_bounds-read_at-end-2 c = zeros 528896

pub slice_bounds-part-end : goal.slice_bounds-part-end
slice_bounds-part-end c = zeros-kept 528896 c.read_at-got.new.buf c.read_at-got.auto.buf
