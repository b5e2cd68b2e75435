use Rattle.std.proofs.Common.{◌≡◌, [], ◌++◌, ◌-◌, length, take, ap, ◌∙◌, rules}
use Rattle.pcm_line.specs.declared.line.Line.TheVariants as line
use Rattle.pcm_line.specs.Spelling.{spelling}
use Rattle.live_log.proofs.ScriptLine.{all-bytes, in-place, on-ok, takes-bytes}
use Rattle.live_log.proofs.event.push_script_line.Goals as goal

pub returns-in-Write : goal.returns-in-Write
returns-in-Write c =
    let e = c.args.event.now in
    let old = c.args.text.now.items in
    let none : c.of-none.result ≡ [] = c.of-none.ensures ∙ c.new.ensures.items in
    let bare : c.push_line.new.text.items ≡ old ++ spelling (line.Event e []) = c.in_ok-push_line.ensures.text ∙ ap (λ b. old ++ spelling (line.Event e b)) none in
    let text = c.push_line.new.text.items in
    let size : c.len.result ≡ length text = search rules in
    let short : c.truncate.new.self.items ≡ take (length text - 1) text = c.truncate.ensures.items ∙ ap (λ n. take (n - 1) text) size in
    on-ok c.push_hex.result
    (in-place e old text c.truncate.new.self.items c.push_hex.new.text.items c.args.bytes.now
    (takes-bytes e.call c.in-Write.is) (all-bytes c.args.bytes.now c.type_inv.bytes) bare short)
    c.push_hex.ensures.ok
