-- The worked groups, by computation.
-- Assumes nothing.
use mathlib.Core.Path.{refl}
use Rattle.homing.specs.Fitting.{group_fits}
use Rattle.homing.specs.Worked.{Hold, told_of, working_courses, protection_courses, taken_of, arrivals, fit_of, lying, refusal_of, attempts}

pub working-holds : Hold told_of working_courses
unfolding Hold working_courses
working-holds = (refl, (refl, (refl, (refl, (refl, (refl, (refl, (refl, (refl, (refl, (refl, (refl, (refl, (refl, (refl, (refl, (refl, tt)))))))))))))))))

pub protection-holds : Hold told_of protection_courses
unfolding Hold protection_courses
protection-holds = (refl, (refl, (refl, (refl, (refl, (refl, (refl, (refl, (refl, (refl, tt))))))))))

pub arrivals-hold : Hold taken_of arrivals
unfolding Hold arrivals
arrivals-hold = (refl, (refl, (refl, (refl, (refl, (refl, (refl, (refl, tt))))))))

pub lying-holds : Hold fit_of lying
unfolding Hold lying group_fits
lying-holds = (refl, (refl, (refl, (refl, (refl, (refl, (refl, (refl, (refl, (refl, (refl, (refl, tt))))))))))))

pub attempts-hold : Hold refusal_of attempts
unfolding Hold attempts
attempts-hold = (refl, (refl, (refl, (refl, (refl, (refl, (refl, tt)))))))
