-- A line can be said exactly where it has a spelling.
use Rattle.std.specs.declared.option.Option.{Option}
use Rattle.std.specs.declared.option.Option.TheVariants.{Some, None}
use Rattle.std.specs.List.{AllByRecursion}
use Rattle.std.proofs.Common.{◌≡◌, ℕ, ◌<◌, List, [], refl, sym, ◌∙◌, ap, subst}
use Rattle.pcm_base.specs.declared.ids.ClientId.{ClientId}
use Rattle.pcm_base.specs.declared.ids.SubId.{SubId}
use Rattle.pcm_base.specs.declared.call.Call.{Call}
use Rattle.pcm_base.specs.declared.call.Call.TheVariants.{OpenSub, CloseSub, HwParams, HwFree, SwParams, Prepare, Start, DropNow, Drain, PausePush, PauseRelease, Suspend, Resume, Xrun, Write, Read, Rewind, Forward, Hwsync, Delay, SyncPtr, Status, PageNow, Poll, Map, Unmap, Store, Load, Link, Unlink, Go, MoveBy, Irq, FailAt, Give, Unplug}
use Rattle.pcm_base.specs.declared.call.Layout.TheVariants.{Interleaved, Planar}
use Rattle.pcm_line.specs.declared.keyword.Keyword.{Keyword}
use Rattle.pcm_line.specs.declared.keyword.Keyword.TheVariants as keyword
use Rattle.pcm_line.specs.declared.line.Line.{Line}
use Rattle.pcm_line.specs.declared.line.Line.TheVariants.{LongMax, Card, Event, Feed, Save, Space, Beat, Threads, Join, Version, Carry, Wire}
use Rattle.pcm_line.specs.Forms.{Values, form_of, of_client, of_card}
use Rattle.pcm_line.specs.Grammar.{AllFit, IsLine}
use Rattle.pcm_line.specs.Sayable.{IsSayableEvent, Sayable, IsWellTyped}
use Rattle.pcm_line.specs.Spelling.{spelling}

means-sayable : (k : Keyword) (v : Values (form_of k).kinds) → AllFit (form_of k).kinds v → Sayable ((form_of k).means v)
means-sayable keyword.Writei v fit = record { caller = fit.0; sub = fit.1.0; operands = tt; only = tt }
means-sayable keyword.Move v fit = record { caller = tt; sub = fit.0; operands = fit.1.0; only = refl }
means-sayable keyword.Irq v fit = record { caller = tt; sub = fit.0; operands = tt; only = refl }
means-sayable keyword.Status v fit = record { caller = fit.0; sub = fit.1.0; operands = tt; only = refl }
means-sayable keyword.Readi v fit = record { caller = fit.0; sub = fit.1.0; operands = fit.1.1.1.0; only = refl }
means-sayable keyword.Writen v fit = record { caller = fit.0; sub = fit.1.0; operands = tt; only = tt }
means-sayable keyword.Readn v fit = record { caller = fit.0; sub = fit.1.0; operands = fit.1.1.1.0; only = refl }
means-sayable keyword.Store v fit = record { caller = fit.0; sub = fit.1.0; operands = fit.1.1.0; only = tt }
means-sayable keyword.Load v fit = record { caller = fit.0; sub = fit.1.0; operands = (fit.1.1.0, fit.1.1.1.0); only = refl }
means-sayable keyword.Rewind v fit = record { caller = fit.0; sub = fit.1.0; operands = fit.1.1.0; only = refl }
means-sayable keyword.Forward v fit = record { caller = fit.0; sub = fit.1.0; operands = fit.1.1.0; only = refl }
means-sayable keyword.Sync v fit = record { caller = fit.0; sub = fit.1.0; operands = fit.1.1.0; only = refl }
means-sayable keyword.Hwsync v fit = record { caller = fit.0; sub = fit.1.0; operands = tt; only = refl }
means-sayable keyword.Delay v fit = record { caller = fit.0; sub = fit.1.0; operands = tt; only = refl }
means-sayable keyword.Page v fit = record { caller = fit.0; sub = fit.1.0; operands = tt; only = refl }
means-sayable keyword.Poll v fit = record { caller = fit.0; sub = fit.1.0; operands = tt; only = refl }
means-sayable keyword.Prepare v fit = record { caller = fit.0; sub = fit.1.0; operands = tt; only = refl }
means-sayable keyword.Start v fit = record { caller = fit.0; sub = fit.1.0; operands = tt; only = refl }
means-sayable keyword.Drop v fit = record { caller = fit.0; sub = fit.1.0; operands = tt; only = refl }
means-sayable keyword.Drain v fit = record { caller = fit.0; sub = fit.1.0; operands = tt; only = refl }
means-sayable keyword.Xrun v fit = record { caller = fit.0; sub = fit.1.0; operands = tt; only = refl }
means-sayable keyword.Pause v fit = record { caller = fit.0; sub = fit.1.0; operands = tt; only = refl }
means-sayable keyword.Release v fit = record { caller = fit.0; sub = fit.1.0; operands = tt; only = refl }
means-sayable keyword.Suspend v fit = record { caller = fit.0; sub = fit.1.0; operands = tt; only = refl }
means-sayable keyword.Resume v fit = record { caller = fit.0; sub = fit.1.0; operands = tt; only = refl }
means-sayable keyword.Go v fit = record { caller = fit.0; sub = refl; operands = tt; only = refl }
means-sayable keyword.Link v fit = record { caller = fit.0; sub = fit.1.0; operands = fit.1.1.0; only = refl }
means-sayable keyword.Unlink v fit = record { caller = fit.0; sub = fit.1.0; operands = tt; only = refl }
means-sayable keyword.Mmap v fit = record { caller = fit.0; sub = fit.1.0; operands = tt; only = refl }
means-sayable keyword.Munmap v fit = record { caller = fit.0; sub = fit.1.0; operands = tt; only = refl }
means-sayable keyword.Open v fit = record { caller = fit.0; sub = fit.1.0; operands = tt; only = refl }
means-sayable keyword.Close v fit = record { caller = fit.0; sub = fit.1.0; operands = tt; only = refl }
means-sayable keyword.Hw v fit = record { caller = fit.0; sub = fit.1.0; operands = (fit.1.1.1.1.0, fit.1.1.1.1.1.0, fit.1.1.1.1.1.1.0, fit.1.1.1.1.1.1.1.0); only = refl }
means-sayable keyword.Hwfree v fit = record { caller = fit.0; sub = fit.1.0; operands = tt; only = refl }
means-sayable keyword.Sw v fit = record { caller = fit.0; sub = fit.1.0; operands = (fit.1.1.0, fit.1.1.1.0, fit.1.1.1.1.0, fit.1.1.1.1.1.0, fit.1.1.1.1.1.1.0); only = refl }
means-sayable keyword.Long v fit = fit.0
means-sayable keyword.Card v fit = fit.0
means-sayable keyword.Fail v fit = record { caller = tt; sub = fit.0; operands = fit.1.0; only = refl }
means-sayable keyword.Unplug v fit = record { caller = tt; sub = fit.0; operands = tt; only = refl }
means-sayable keyword.Give v fit = record { caller = tt; sub = fit.0; operands = tt; only = tt }
means-sayable keyword.Feed v fit = fit.0
means-sayable keyword.Save v fit = fit.0
means-sayable keyword.Space v fit = record {
  accesses = fit.1.0;
  formats = fit.1.1.0;
  channels = (fit.1.1.1.0, fit.1.1.1.1.0);
  rate = (fit.1.1.1.1.1.0, fit.1.1.1.1.1.1.0);
  period = (fit.1.1.1.1.1.1.1.0, fit.1.1.1.1.1.1.1.1.0);
  periods = (fit.1.1.1.1.1.1.1.1.1.0, fit.1.1.1.1.1.1.1.1.1.1.0);
  buffer = (fit.1.1.1.1.1.1.1.1.1.1.1.0, fit.1.1.1.1.1.1.1.1.1.1.1.1.0);
}
means-sayable keyword.Beat v fit = (fit.0, fit.1.0, fit.1.1.0)
means-sayable keyword.Threads v fit = tt
means-sayable keyword.Join v fit = tt
means-sayable keyword.Version v fit = fit.0
means-sayable keyword.Carry v fit = (fit.0, fit.1.0)
means-sayable keyword.Wire v fit = (fit.0, fit.1.0)

-- what has a spelling can be said
pub line-sayable : (bytes : List ℕ) (line : Line) → IsLine bytes line → Sayable line
line-sayable bytes line is = subst (λ (x : Line). Sayable x) (sym is.means) (means-sayable is.keyword is.values is.fit)

go-means : (c : ClientId) (s : SubId) (bytes : List ℕ) → s.0 ≡ 0 → bytes ≡ [] → of_client c s Go bytes ≡ of_client c (record { 0 = 0 }) Go []
go-means c s bytes e f = ap (λ (b : List ℕ). of_client c s Go b) f ∙ ap (λ (n : ℕ). of_client c (record { 0 = n }) Go []) e

client_line : (c : ClientId) (s : SubId) (call : Call) (bytes : List ℕ) → AllByRecursion (λ b. b < 256) bytes → IsSayableEvent (record { client = Some c; sub = s; call = call }) bytes → IsLine (spelling (of_client c s call bytes)) (of_client c s call bytes)
client_line c s Status bytes ok say = record { keyword = keyword.Status; values = (c, (s, tt)); fit = (say.caller, (say.sub, tt)); means = ap (λ (b : List ℕ). of_client c s Status b) say.only; spelling = refl }
client_line c s Hwsync bytes ok say = record { keyword = keyword.Hwsync; values = (c, (s, tt)); fit = (say.caller, (say.sub, tt)); means = ap (λ (b : List ℕ). of_client c s Hwsync b) say.only; spelling = refl }
client_line c s Delay bytes ok say = record { keyword = keyword.Delay; values = (c, (s, tt)); fit = (say.caller, (say.sub, tt)); means = ap (λ (b : List ℕ). of_client c s Delay b) say.only; spelling = refl }
client_line c s PageNow bytes ok say = record { keyword = keyword.Page; values = (c, (s, tt)); fit = (say.caller, (say.sub, tt)); means = ap (λ (b : List ℕ). of_client c s PageNow b) say.only; spelling = refl }
client_line c s Poll bytes ok say = record { keyword = keyword.Poll; values = (c, (s, tt)); fit = (say.caller, (say.sub, tt)); means = ap (λ (b : List ℕ). of_client c s Poll b) say.only; spelling = refl }
client_line c s Prepare bytes ok say = record { keyword = keyword.Prepare; values = (c, (s, tt)); fit = (say.caller, (say.sub, tt)); means = ap (λ (b : List ℕ). of_client c s Prepare b) say.only; spelling = refl }
client_line c s Start bytes ok say = record { keyword = keyword.Start; values = (c, (s, tt)); fit = (say.caller, (say.sub, tt)); means = ap (λ (b : List ℕ). of_client c s Start b) say.only; spelling = refl }
client_line c s DropNow bytes ok say = record { keyword = keyword.Drop; values = (c, (s, tt)); fit = (say.caller, (say.sub, tt)); means = ap (λ (b : List ℕ). of_client c s DropNow b) say.only; spelling = refl }
client_line c s Xrun bytes ok say = record { keyword = keyword.Xrun; values = (c, (s, tt)); fit = (say.caller, (say.sub, tt)); means = ap (λ (b : List ℕ). of_client c s Xrun b) say.only; spelling = refl }
client_line c s PausePush bytes ok say = record { keyword = keyword.Pause; values = (c, (s, tt)); fit = (say.caller, (say.sub, tt)); means = ap (λ (b : List ℕ). of_client c s PausePush b) say.only; spelling = refl }
client_line c s PauseRelease bytes ok say = record { keyword = keyword.Release; values = (c, (s, tt)); fit = (say.caller, (say.sub, tt)); means = ap (λ (b : List ℕ). of_client c s PauseRelease b) say.only; spelling = refl }
client_line c s Suspend bytes ok say = record { keyword = keyword.Suspend; values = (c, (s, tt)); fit = (say.caller, (say.sub, tt)); means = ap (λ (b : List ℕ). of_client c s Suspend b) say.only; spelling = refl }
client_line c s Resume bytes ok say = record { keyword = keyword.Resume; values = (c, (s, tt)); fit = (say.caller, (say.sub, tt)); means = ap (λ (b : List ℕ). of_client c s Resume b) say.only; spelling = refl }
client_line c s Unlink bytes ok say = record { keyword = keyword.Unlink; values = (c, (s, tt)); fit = (say.caller, (say.sub, tt)); means = ap (λ (b : List ℕ). of_client c s Unlink b) say.only; spelling = refl }
client_line c s Map bytes ok say = record { keyword = keyword.Mmap; values = (c, (s, tt)); fit = (say.caller, (say.sub, tt)); means = ap (λ (b : List ℕ). of_client c s Map b) say.only; spelling = refl }
client_line c s Unmap bytes ok say = record { keyword = keyword.Munmap; values = (c, (s, tt)); fit = (say.caller, (say.sub, tt)); means = ap (λ (b : List ℕ). of_client c s Unmap b) say.only; spelling = refl }
client_line c s OpenSub bytes ok say = record { keyword = keyword.Open; values = (c, (s, tt)); fit = (say.caller, (say.sub, tt)); means = ap (λ (b : List ℕ). of_client c s OpenSub b) say.only; spelling = refl }
client_line c s CloseSub bytes ok say = record { keyword = keyword.Close; values = (c, (s, tt)); fit = (say.caller, (say.sub, tt)); means = ap (λ (b : List ℕ). of_client c s CloseSub b) say.only; spelling = refl }
client_line c s HwFree bytes ok say = record { keyword = keyword.Hwfree; values = (c, (s, tt)); fit = (say.caller, (say.sub, tt)); means = ap (λ (b : List ℕ). of_client c s HwFree b) say.only; spelling = refl }
client_line c s (Rewind n) bytes ok say = record { keyword = keyword.Rewind; values = (c, (s, (n, tt))); fit = (say.caller, (say.sub, (say.operands, tt))); means = ap (λ (b : List ℕ). of_client c s (Rewind n) b) say.only; spelling = refl }
client_line c s (Forward n) bytes ok say = record { keyword = keyword.Forward; values = (c, (s, (n, tt))); fit = (say.caller, (say.sub, (say.operands, tt))); means = ap (λ (b : List ℕ). of_client c s (Forward n) b) say.only; spelling = refl }
client_line c s (SyncPtr n) bytes ok say = record { keyword = keyword.Sync; values = (c, (s, (n, tt))); fit = (say.caller, (say.sub, (say.operands, tt))); means = ap (λ (b : List ℕ). of_client c s (SyncPtr n) b) say.only; spelling = refl }
client_line c s (HwParams p) bytes ok say = record { keyword = keyword.Hw; values = (c, (s, (p.access, (p.format, (p.channels, (p.rate, (p.period, (p.periods, tt)))))))); fit = (say.caller, (say.sub, (tt, (tt, (say.operands.0, (say.operands.1, (say.operands.2, (say.operands.3, tt)))))))); means = ap (λ (b : List ℕ). of_client c s (HwParams p) b) say.only; spelling = refl }
client_line c s (SwParams p) bytes ok say = record { keyword = keyword.Sw; values = (c, (s, (p.avail_min, (p.start_threshold, (p.stop_threshold, (p.silence_threshold, (p.silence_size, tt))))))); fit = (say.caller, (say.sub, (say.operands.0, (say.operands.1, (say.operands.2, (say.operands.3, (say.operands.4, tt))))))); means = ap (λ (b : List ℕ). of_client c s (SwParams p) b) say.only; spelling = refl }
client_line c s (Drain m) bytes ok say = record { keyword = keyword.Drain; values = (c, (s, (m, tt))); fit = (say.caller, (say.sub, (tt, tt))); means = ap (λ (b : List ℕ). of_client c s (Drain m) b) say.only; spelling = refl }
client_line c s (Write Interleaved m) bytes ok say = record { keyword = keyword.Writei; values = (c, (s, (m, (bytes, tt)))); fit = (say.caller, (say.sub, (tt, (ok, tt)))); means = refl; spelling = refl }
client_line c s (Write Planar m) bytes ok say = record { keyword = keyword.Writen; values = (c, (s, (m, (bytes, tt)))); fit = (say.caller, (say.sub, (tt, (ok, tt)))); means = refl; spelling = refl }
client_line c s (Read Interleaved m n) bytes ok say = record { keyword = keyword.Readi; values = (c, (s, (m, (n, tt)))); fit = (say.caller, (say.sub, (tt, (say.operands, tt)))); means = ap (λ (b : List ℕ). of_client c s (Read Interleaved m n) b) say.only; spelling = refl }
client_line c s (Read Planar m n) bytes ok say = record { keyword = keyword.Readn; values = (c, (s, (m, (n, tt)))); fit = (say.caller, (say.sub, (tt, (say.operands, tt)))); means = ap (λ (b : List ℕ). of_client c s (Read Planar m n) b) say.only; spelling = refl }
client_line c s (Store n) bytes ok say = record { keyword = keyword.Store; values = (c, (s, (n, (bytes, tt)))); fit = (say.caller, (say.sub, (say.operands, (ok, tt)))); means = refl; spelling = refl }
client_line c s (Load n m) bytes ok say = record { keyword = keyword.Load; values = (c, (s, (n, (m, tt)))); fit = (say.caller, (say.sub, (say.operands.0, (say.operands.1, tt)))); means = ap (λ (b : List ℕ). of_client c s (Load n m) b) say.only; spelling = refl }
client_line c s (Link other) bytes ok say = record { keyword = keyword.Link; values = (c, (s, (other, tt))); fit = (say.caller, (say.sub, (say.operands, tt))); means = ap (λ (b : List ℕ). of_client c s (Link other) b) say.only; spelling = refl }
client_line c s Go bytes ok say = record { keyword = keyword.Go; values = (c, tt); fit = (say.caller, tt); means = go-means c s bytes say.sub say.only; spelling = refl }
client_line c s _ bytes ok say = absurd say.caller

card_line : (s : SubId) (call : Call) (bytes : List ℕ) → AllByRecursion (λ b. b < 256) bytes → IsSayableEvent (record { client = None; sub = s; call = call }) bytes → IsLine (spelling (of_card s call bytes)) (of_card s call bytes)
card_line s (MoveBy n) bytes ok say = record { keyword = keyword.Move; values = (s, (n, tt)); fit = (say.sub, (say.operands, tt)); means = ap (λ (b : List ℕ). of_card s (MoveBy n) b) say.only; spelling = refl }
card_line s Irq bytes ok say = record { keyword = keyword.Irq; values = (s, tt); fit = (say.sub, tt); means = ap (λ (b : List ℕ). of_card s Irq b) say.only; spelling = refl }
card_line s (FailAt n) bytes ok say = record { keyword = keyword.Fail; values = (s, (n, tt)); fit = (say.sub, (say.operands, tt)); means = ap (λ (b : List ℕ). of_card s (FailAt n) b) say.only; spelling = refl }
card_line s Unplug bytes ok say = record { keyword = keyword.Unplug; values = (s, tt); fit = (say.sub, tt); means = ap (λ (b : List ℕ). of_card s Unplug b) say.only; spelling = refl }
card_line s Give bytes ok say = record { keyword = keyword.Give; values = (s, (bytes, tt)); fit = (say.sub, (ok, tt)); means = refl; spelling = refl }
card_line s _ bytes ok say = absurd say.caller

event_line : (o : Option ClientId) (s : SubId) (call : Call) (bytes : List ℕ) → AllByRecursion (λ b. b < 256) bytes → IsSayableEvent (record { client = o; sub = s; call = call }) bytes → IsLine (spelling (Event (record { client = o; sub = s; call = call }) bytes)) (Event (record { client = o; sub = s; call = call }) bytes)
event_line None s call bytes ok say = card_line s call bytes ok say
event_line (Some c) s call bytes ok say = client_line c s call bytes ok say

-- what can be said has a spelling
pub line-spelled : (line : Line) → IsWellTyped line → Sayable line → IsLine (spelling line) line
line-spelled (LongMax n) ok say = record { keyword = keyword.Long; values = (n, tt); fit = (say, tt); means = refl; spelling = refl }
line-spelled (Card s m d) ok say = record { keyword = keyword.Card; values = (s, (m, (d, tt))); fit = (say, (tt, (tt, tt))); means = refl; spelling = refl }
line-spelled (Event e bytes) ok say = event_line e.client e.sub e.call bytes ok say
line-spelled (Feed s n) ok say = record { keyword = keyword.Feed; values = (s, (n, tt)); fit = (say, (ok, tt)); means = refl; spelling = refl }
line-spelled (Save s n) ok say = record { keyword = keyword.Save; values = (s, (n, tt)); fit = (say, (ok, tt)); means = refl; spelling = refl }
line-spelled (Space m p) ok say = record { keyword = keyword.Space; values = (m, (p.accesses, (p.formats, (p.channels.least, (p.channels.most, (p.rate.least, (p.rate.most, (p.period.least, (p.period.most, (p.periods.least, (p.periods.most, (p.buffer.least, (p.buffer.most, tt))))))))))))); fit = (tt, (say.accesses, (say.formats, (say.channels.0, (say.channels.1, (say.rate.0, (say.rate.1, (say.period.0, (say.period.1, (say.periods.0, (say.periods.1, (say.buffer.0, (say.buffer.1, tt))))))))))))); means = refl; spelling = refl }
line-spelled (Beat s n m) ok say = record { keyword = keyword.Beat; values = (s, (n, (m, tt))); fit = (say.0, (say.1, (say.2, tt))); means = refl; spelling = refl }
line-spelled Threads ok say = record { keyword = keyword.Threads; values = tt; fit = tt; means = refl; spelling = refl }
line-spelled Join ok say = record { keyword = keyword.Join; values = tt; fit = tt; means = refl; spelling = refl }
line-spelled (Version n) ok say = record { keyword = keyword.Version; values = (n, tt); fit = (say, tt); means = refl; spelling = refl }
line-spelled (Carry a b) ok say = record { keyword = keyword.Carry; values = (a, (b, tt)); fit = (say.0, (say.1, tt)); means = refl; spelling = refl }
line-spelled (Wire a b) ok say = record { keyword = keyword.Wire; values = (a, (b, tt)); fit = (say.0, (say.1, tt)); means = refl; spelling = refl }
