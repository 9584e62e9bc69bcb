use Rattle.located.proofs.Zeros.{zeros, zeros-kept}
use Rattle.index.proofs.run.Goals as goal

pub slice_bounds-build-end : goal.slice_bounds-build-end
slice_bounds-build-end c = zeros 528896

pub slice_bounds-tell-end : goal.slice_bounds-tell-end
slice_bounds-tell-end c = zeros-kept 65536 c.build-built.new.out c.build-built.auto.out
