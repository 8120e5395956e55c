use Rattle.curves.proofs.Checked as checked
use Rattle.clearing.proofs.Figured as figured
use Rattle.clearing.proofs.theorems.worked_figures_stand.Goals as goal

pub returns : goal.returns
returns c = record { prices = checked.figures; block = figured.figure_stands }
