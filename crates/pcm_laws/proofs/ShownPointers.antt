-- What is shown of a configured stream.
use Rattle.std.proofs.Common.{ℕ, ◌≡◌, ◌+◌, ◌-◌, ◌%◌, ◌≤◌, ◌<◌, sym, ◌∙◌, arith}
use Rattle.std.proofs.Math.Nat.{mod-eq_of_lt}
use Rattle.pcm_base.specs.declared.config.Config.{Config}
use Rattle.pcm_base.specs.declared.state.Dir.{Dir}
use Rattle.pcm_base.specs.declared.state.Dir.TheVariants as dir
use Rattle.pcm_base.specs.model.PointerCalls.{sync_to}
use Rattle.pcm_base.specs.model.Sound.{IsConfigured}
use Rattle.pcm_base.specs.model.Stream.{Stream, avail, head, head_of, shown}
use Rattle.pcm_laws.proofs.KeptByMoves.{head_most}
use Rattle.pcm_laws.proofs.Remainders.{add-sub-mod_small, mod-mod_whole, sub-mod_small, sub-sub-mod}
use Rattle.pcm_laws.proofs.Sizes.{Sizes, sizes}

pub avail-shown : (c : Config) (s : Stream) → IsConfigured c s → avail s ≡ (head s % s.setup.boundary + s.setup.boundary - shown s s.at.appl) % s.setup.boundary
avail-shown c s h = sym (sub-mod_small s.setup.boundary (head s) s.at.appl h.placed.written h.placed.fewer)

playback_avail : (d : Dir) (b l h u : ℕ) → d ≡ dir.Playback → u ≤ head_of d b h → head_of d b h - u < l → head_of d b h - u ≡ (h % l + b + l - u % l) % l
playback_avail dir.Playback b l h u e p q = sym (add-sub-mod_small l h b u p q)
playback_avail dir.Capture b l h u e p q = absurd (cc)

pub avail-shown_playback : (c : Config) (s : Stream) → IsConfigured c s → s.dir ≡ dir.Playback → avail s ≡ (shown s s.at.hw + s.setup.buffer + s.setup.boundary - shown s s.at.appl) % s.setup.boundary
avail-shown_playback c s h e = playback_avail s.dir s.setup.buffer s.setup.boundary s.at.hw s.at.appl e h.placed.written h.placed.fewer

capture_avail : (d : Dir) (b l h u : ℕ) → d ≡ dir.Capture → u ≤ head_of d b h → head_of d b h - u < l → head_of d b h - u ≡ (h % l + l - u % l) % l
capture_avail dir.Playback b l h u e p q = absurd (cc)
capture_avail dir.Capture b l h u e p q = sym (sub-mod_small l h u p q)

pub avail-shown_capture : (c : Config) (s : Stream) → IsConfigured c s → s.dir ≡ dir.Capture → avail s ≡ (shown s s.at.hw + s.setup.boundary - shown s s.at.appl) % s.setup.boundary
avail-shown_capture c s h e = capture_avail s.dir s.setup.buffer s.setup.boundary s.at.hw s.at.appl e h.placed.written h.placed.fewer

pub unreported-shown : (c : Config) (s : Stream) → IsConfigured c s → s.at.card - s.at.hw ≡ (shown s s.at.card + s.setup.boundary - shown s s.at.hw) % s.setup.boundary
unreported-shown c s h =
    let z : Sizes s = sizes c s h.shaped in
    sym (sub-mod_small s.setup.boundary s.at.card s.at.hw h.placed.reported (omega (arith, h.placed.near, h.placed.reported, z.room)))

pub slot-shown : (c : Config) (s : Stream) (p : ℕ) → IsConfigured c s → shown s p % s.setup.buffer ≡ p % s.setup.buffer
slot-shown c s p h = let z : Sizes s = sizes c s h.shaped in mod-mod_whole s.setup.buffer s.setup.boundary p z.whole

pub shown-sync_to : (c : Config) (s : Stream) (p : ℕ) → IsConfigured c s → p < s.setup.boundary → shown s (sync_to p s).at.appl ≡ p
shown-sync_to c s p h l =
    let top : s.at.hw ≤ head s = head_most s.dir s.setup.buffer s.at.hw in
    sub-sub-mod s.setup.boundary (head s) p (omega arith) (omega (arith, top, h.placed.origin)) ∙ mod-eq_of_lt l
