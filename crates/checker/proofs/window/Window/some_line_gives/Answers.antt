use mathlib.Core.Bool.{Bool, ◌||◌}
use mathlib.Core.Path.{◌∙◌, ap, sym}
use Rattle.values.proofs.RangeLaws.{any_front}
use lib.ListN.{length}
use Prim.Native.Nat.{suc}
use Rattle.values.specs.Lists.{any}
use Rattle.checker.specs.Checker.{gives_step}
use Rattle.checker.specs.Inner.Within.{window_known, window_net, window_stuck}
use Rattle.checker.proofs.window.Window.some_line_gives.Goals as goal

pub returns-then-line_gives : goal.returns-then-line_gives
returns-then-line_gives c =
    let a = c.args in
    let gives = gives_step (window_net a.self) (window_stuck a.self) 0 (window_known a.self a.known.now) a.step in
    let pins = (window_net a.self).pins a.step.via in
    c.if-line_gives.true ∙ sym (any_front gives (length pins) ∙ ap (λ (b : Bool). b || any (λ k. gives (suc k)) (length pins)) (sym c.line_gives.ensures ∙ c.if-line_gives.true))

pub returns-else-line_gives : goal.returns-else-line_gives
returns-else-line_gives c =
    let a = c.args in
    let gives = gives_step (window_net a.self) (window_stuck a.self) 0 (window_known a.self a.known.now) a.step in
    let pins = (window_net a.self).pins a.step.via in
    c.some_pin_gives.ensures ∙ sym (any_front gives (length pins) ∙ ap (λ (b : Bool). b || any (λ k. gives (suc k)) (length pins)) (sym c.line_gives.ensures ∙ c.if-line_gives.false))
