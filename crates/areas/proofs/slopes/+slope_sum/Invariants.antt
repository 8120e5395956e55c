use Rattle.areas.proofs.slopes.+slope_sum.Given as goal

abbrev pub decreases-slope_sum : goal.decreases-slope_sum
decreases-slope_sum l = l.m
