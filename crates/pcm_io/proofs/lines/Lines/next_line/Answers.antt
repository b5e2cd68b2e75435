use Rattle.std.proofs.Common.{◌≡◌, ◌++◌, ◌∙◌, ap, List, [], ℕ, take, refl, rules, append-nil}
use Rattle.pcm_io.specs.Lines.{LineState}
use Rattle.pcm_io.proofs.LineLemmas.{next-fed}
use Rattle.pcm_io.proofs.lines.Lines.next_line.Goals as goal

pub returns-then-is_empty-clause-line : goal.returns-then-is_empty-clause-line
returns-then-is_empty-clause-line g c =
    let read = c.in-Ok-Some.ensures.read (λ e. cc) in
    let found = rw c.in-Ok-Some.field-0-is at c.in-Ok-Some.ensures.found in
    next-fed c.args.self.now c.skip.new.self c.seek_feed.new.ahead _ _ read.0 c.seek_feed.new.front.items _ c.in-Ok-Some.at read.1 (c.skip.ensures ∙ ap (λ (r : LineState). r.ahead) c.self.view_is) read.2 read.3 found.2 refl

pub returns-in-Ok-clause-line : goal.returns-in-Ok-clause-line
returns-in-Ok-clause-line g c =
    let read = c.in-Ok-Some.ensures.read (λ e. cc) in
    let found = rw c.in-Ok-Some.field-0-is at c.in-Ok-Some.ensures.found in
    let grown : c.extend_from_slice.new.self.items ++ [] ≡ c.seek_feed.new.front.items ++ take c.in-Ok-Some.at c.seek_feed.new.ahead.bytes = append-nil c.extend_from_slice.new.self.items ∙ search rules in
    next-fed c.args.self.now c.skip.new.self c.seek_feed.new.ahead _ _ read.0 c.seek_feed.new.front.items _ c.in-Ok-Some.at read.1 (c.skip.ensures ∙ ap (λ (r : LineState). r.ahead) c.self.view_is) read.2 read.3 found.2 grown
