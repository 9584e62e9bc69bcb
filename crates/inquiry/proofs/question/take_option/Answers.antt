use mathlib.Core.Path.{◌∙◌}
use Rattle.inquiry.proofs.Reading.{option-interface, option-global, option-upto, option-none}
use Rattle.inquiry.proofs.question.take_option.Goals as goal

pub returns-in-Some : goal.returns-in-Some
returns-in-Some c = let a = c.args in
    let s = c.in-Some.ensures.cases in
    c.take_interface.ensures ∙ option-interface a.q a.w.now s.0 s.1

pub returns-in-Some-strip_prefix : goal.returns-in-Some-strip_prefix
returns-in-Some-strip_prefix c = let a = c.args in
    let s = c.in-Some-strip_prefix.ensures.cases in
    c.take_global.ensures ∙ option-global a.q a.w.now c.in_default.ensures.cases s.0 s.1

pub returns-in-Some-strip_prefix-2 : goal.returns-in-Some-strip_prefix-2
returns-in-Some-strip_prefix-2 c = let a = c.args in
    let s = c.in-Some-strip_prefix-2.ensures.cases in
    c.take_upto.ensures ∙ option-upto a.q a.w.now c.in_default.ensures.cases c.in_default-strip_prefix.ensures.cases s.0 s.1

pub returns : goal.returns
returns c = let a = c.args in
    option-none a.q a.w.now c.in_default.ensures.cases c.in_default-strip_prefix.ensures.cases c.in_default-strip_prefix-2.ensures.cases
