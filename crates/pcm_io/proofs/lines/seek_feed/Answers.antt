use Rattle.std.proofs.Common.{◌≡◌, ◌++◌, ◌∙◌, sym, ap, List, ℕ, length, rules, subst, [], append-nil, take_all}
use Rattle.pcm_io.specs.Lines.{Ahead}
use Rattle.pcm_io.proofs.LineLemmas.{seek-read, seek-failed, seek-same, skipped-all, feeds-append, plain-more}
use Rattle.pcm_io.proofs.lines.seek_feed.Goals as goal

pub returns-in_default-fill-clause-read : goal.returns-in_default-fill-clause-read
returns-in_default-fill-clause-read g c = λ found.
    let here = c.pieces.invariant in
    let before = c.pieces.ahead in
    let long : length c.bytes-bytes.result.now ≡ length before.bytes = ap length c.bytes-bytes.ensures.bytes in
    let gone = skipped-all before c.skip.new.self _ c.skip.ensures long in
    let grown : c.extend_from_slice.new.self.items ≡ c.pieces.front.items ++ before.bytes = search rules in
    let none : c.fill.new.self.bytes ≡ [] = ap (λ (x : Ahead). x.bytes) (c.in_default-fill.ensures.same ∙ gone) in (
      here.bytes,
      seek-failed _ before c.skip.new.self c.fill.new.self _ _ _ here.bytes here.read gone c.in_default-fill.ensures.same c.in_default-fill.ensures.failed.0 c.in_default-fill.ensures.failed.1,
      here.same ∙ sym grown ∙ sym (append-nil c.extend_from_slice.new.self.items) ∙ ap (λ (x : List ℕ). c.extend_from_slice.new.self.items ++ x) (sym none),
      plain-more c.pieces.front.items before.bytes c.extend_from_slice.new.self.items here.plain (search rules) grown,
    )

pub returns-then-is_empty-clause-read : goal.returns-then-is_empty-clause-read
returns-then-is_empty-clause-read g c = λ found.
    let here = c.pieces.invariant in
    let before = c.pieces.ahead in
    let long : length c.bytes-bytes.result.now ≡ length before.bytes = ap length c.bytes-bytes.ensures.bytes in
    let gone = skipped-all before c.skip.new.self _ c.skip.ensures long in
    let grown : c.extend_from_slice.new.self.items ≡ c.pieces.front.items ++ before.bytes = search rules in (
      here.bytes ++ c.fill.new.self.bytes,
      seek-read _ before c.skip.new.self c.fill.new.self _ _ _ here.bytes here.read gone c.in-Ok-fill.ensures.read,
      seek-same _ here.bytes c.pieces.front.items before.bytes c.extend_from_slice.new.self.items c.fill.new.self.bytes here.same grown,
      plain-more c.pieces.front.items before.bytes c.extend_from_slice.new.self.items here.plain (search rules) grown,
    )

pub pieces-preserved : goal.pieces-preserved
pieces-preserved g c =
    let here = c.pieces.invariant in
    let before = c.pieces.ahead in
    let long : length c.bytes-bytes.result.now ≡ length before.bytes = ap length c.bytes-bytes.ensures.bytes in
    let gone = skipped-all before c.skip.new.self _ c.skip.ensures long in
    let grown : c.extend_from_slice.new.self.items ≡ c.pieces.front.items ++ before.bytes = search rules in
    record {
      bytes = here.bytes ++ c.fill.new.self.bytes;
      read = seek-read _ before c.skip.new.self c.fill.new.self _ _ _ here.bytes here.read gone c.in-Ok-fill.ensures.read;
      same = seek-same _ here.bytes c.pieces.front.items before.bytes c.extend_from_slice.new.self.items c.fill.new.self.bytes here.same grown;
      plain = plain-more c.pieces.front.items before.bytes c.extend_from_slice.new.self.items here.plain (search rules) grown;
      kept = c.in-Ok-fill.ensures.cause.kept ∙ here.kept;
    }
