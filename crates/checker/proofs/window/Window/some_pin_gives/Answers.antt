use Rattle.std.proofs.Common.{rules}
use Prim.Native.Nat.{suc, ℕ}
use mathlib.Core.Bool.{Bool}
use mathlib.Core.Path.{◌∙◌, ap, sym}
use Rattle.netlist.proofs.NetlistLaws.{pins-length}
use Rattle.values.specs.Lists.{any}
use Rattle.values.proofs.RangeLaws.{any_below}
use Rattle.checker.specs.Checker.{gives_step}
use Rattle.checker.specs.Inner.Within.{window_known, window_net, window_stuck}
use Rattle.checker.proofs.window.Window.some_pin_gives.Goals as goal

pub returns : goal.returns
returns c =
    let a = c.args in
    let gives : ℕ → Bool = λ pin. gives_step (window_net a.self) (window_stuck a.self) 0 (window_known a.self a.known.now) a.step (suc pin) in
    let pins = c.length_of-pins.ensures ∙ sym (pins-length a.self.netlist.now a.step.via) in
    any_below gives c.length_of-pins.result _ _ c.any.result c.any.ensures.ran (λ x b q h. search rules)
    ∙ ap (any gives) pins
