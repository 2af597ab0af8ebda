-- `line::parse` reads a line as the rules do.
use mathlib.Core.Path.{◌∙◌}
use borrow.Author.Rules.{rules}
use Rattle.rules.specs.Plain.{and_then}
use Rattle.rules.specs.Calls.{format_call, post_call, strike_call, look_call, next_call}
use Rattle.rules.specs.Bench.{numbers, format_names, post_names, strike_names, look_names, next_names, two, four, parsed}
use Rattle.line.proofs.Requests.{tried, tried-order}
use Rattle.line.proofs.parse.Goals as goal

pub returns : goal.returns
unfolding parsed
returns c =
    let line = c.args.line.now in
    let post = and_then (numbers post_names line) (four post_call) in
    let strike = and_then (numbers strike_names line) (two strike_call) in
    let look = and_then (numbers look_names line) (two look_call) in
    let next = and_then (numbers next_names line) (two next_call) in
    let second = tried _ post _ _ c.format_line.ensures (λ p. search rules) c.or_else.ensures in
    let third = tried _ strike _ _ second (λ p. search rules) c.or_else-2.ensures in
    let fourth = tried _ look _ _ third (λ p. search rules) c.or_else-3.ensures in
    tried _ next _ _ fourth (λ p. search rules) c.or_else-4.ensures
    ∙ tried-order (and_then (numbers format_names line) (four format_call)) post strike look next
