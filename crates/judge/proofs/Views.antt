-- A verdict that refuses nothing, in one view: its length is that of the longest accepted beginning, which also says its kind. So the verdict
-- does not depend on what the buffer held. Assumes nothing.
use Prim.Native.Nat.{ℕ, ◌<◌, ◌≤◌}
use mathlib.Core.List.{List}
use mathlib.Core.Path.{◌≡◌, refl, sym, ◌∙◌, ap}
use native.Mathlib.Omega.{arith}
use lib.ListN.{length, get_or}
use borrow.Author.Tests.{lt-ltb, le-ltb}
use Rattle.std.specs.Prelude.{Result, Ok}
use Rattle.trace.specs.File.{events_of}
use Rattle.trace.specs.Refusal.{Told}
use Rattle.trace.proofs.Causes.{number_range}
use Rattle.trace.proofs.Told.{told_readable}
use Rattle.trace.specs.declared.Cause.{Cause}
use Rattle.judge.specs.Judged.{RuleBytes, Longest, Judged, refused, short, illegal, accepted, verdict_number, verdict_length}
use Rattle.judge.specs.Reply.{verdict_at}
use Rattle.judge.specs.declared.reply.Verdict.{Verdict}
use Rattle.judge.proofs.One.{longest_one, rule_one}

pub record View (file before : List ℕ) (v : Result Verdict Cause) (after : List ℕ) : Type 0 where
  pub told : Told file (Ok tt)
  pub room : events_of file ≤ length before
  pub longest : Longest file (verdict_length v)
  pub is : v ≡ verdict_at (events_of file) (verdict_length v)
  pub bytes : RuleBytes file (verdict_length v) before after

pub view : {file before : List ℕ} {v : Result Verdict Cause} {after : List ℕ} → Judged file before v after → verdict_number v ≡ 0 → View file before v after
view (refused {c = c} t) e = absurd (omega (arith, (number_range c).0))
view (short t l) e = absurd (omega arith)
view {file} (illegal {n = n} t room g l b) e =
    record { told = t; room = room; longest = g; is = rw (lt-ltb n (events_of file) l) refl; bytes = b }
view {file} (accepted {n = n} t room g q b) e =
    record {
      told = t;
      room = room;
      longest = record { within = omega arith; accepted = g; longest = λ m l le. absurd (omega arith) };
      is = rw (le-ltb n (events_of file) (omega arith)) refl;
      bytes = b;
    }

-- a readable file with room is not refused
pub readable_view : {file before : List ℕ} {v : Result Verdict Cause} {after : List ℕ} → Judged file before v after → Told file (Ok tt) →
    events_of file ≤ length before → View file before v after
readable_view {file} (refused t) u l = absurd (told_readable file t u)
readable_view (short t s) u l = absurd (omega arith)
readable_view (illegal t room g k b) u l = view (illegal t room g k b) refl
readable_view (accepted t room g e b) u l = view (accepted t room g e b) refl

module _ {file before lent : List ℕ} {v w : Result Verdict Cause} {after marks : List ℕ} (a : View file before v after) (b : View file lent w marks) where
  same_length : verdict_length v ≡ verdict_length w
  same_length = longest_one file (verdict_length v) (verdict_length w) a.longest b.longest

  pub same_verdict : v ≡ w
  same_verdict = a.is ∙ ap (verdict_at (events_of file)) same_length ∙ sym b.is

  pub same_rules : (i : ℕ) → i < verdict_length v → get_or after i 0 ≡ get_or marks i 0
  same_rules i l = rule_one file refl (a.bytes.rules i l) (b.bytes.rules i (omega (arith, same_length)))
