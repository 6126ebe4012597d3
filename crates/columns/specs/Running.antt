-- A walk's sum on its way down the columns, with the additions made so far.
use Rattle.rules.specs.declared.Element.{Element}
use Rattle.rules.specs.declared.Walk.{Walk}
use Rattle.laws.specs.Running.{Run, running}

abbrev pub run : Walk → Run Element
run w = running w.element w.additions
