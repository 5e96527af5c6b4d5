-- Chains of pairs: the laws of their readers, from those of a pair.
-- Assumes nothing.
use Prim.Native.Nat.{ℕ, ◌<◌}
use mathlib.Core.List.{List}
use mathlib.Core.Path.{◌≡◌, refl}
use Rattle.std.specs.Prelude.{Some}
use Rattle.paper.specs.Message as paper
use Rattle.trace.specs.File.{rows_of}
use Rattle.trace.specs.Meaning.{message}
use Rattle.trace.specs.Promises.{Promised}
use Rattle.laws.proofs.Options.{one_found, and_then_some}
use Rattle.forms.specs.Forms.{three_of, four_of}
use Rattle.forms.specs.Shapes.{IsThree, IsFour}
use Rattle.forms.proofs.Inverts.{pair_complete, pair_sound}

module _ (file : List ℕ) (P : Promised file) where
  pub three_complete : (r : ℕ) {X Y Z : paper.msg} → r < rows_of file → message file r ≡ paper.Pair X (paper.Pair Y Z) →
      (t : ℕ × ℕ × ℕ) × IsThree file r t X Y Z
  unfolding three_of
  three_complete r l e =
      let (p, isp) = pair_complete file P r l e in
      let (q, isq) = pair_complete file P p.1 isp.second.row isp.second.meant in
      ((p.0, q.0, q.1), record { found = rw (isp.found, isq.found) refl; whole = e; first = isp.first; second = isq.first; third = isq.second })

  pub three_sound : (r : ℕ) {t : ℕ × ℕ × ℕ} → r < rows_of file → three_of file r ≡ Some t →
      IsThree file r t (message file t.0) (message file t.1) (message file t.2)
  unfolding three_of
  three_sound r l h =
      let (p, ep, hp) = and_then_some h in
      let (q, eq, hq) = and_then_some hp in
      let isp = pair_sound file P r l ep in
      let isq = pair_sound file P p.1 isp.second.row eq in
      let (t, ist) = three_complete r l (rw isq.whole at isp.whole) in
      rw (one_found h ist.found, ist.first.meant, ist.second.meant, ist.third.meant) ist

  pub four_complete : (r : ℕ) {W X Y Z : paper.msg} → r < rows_of file →
      message file r ≡ paper.Pair W (paper.Pair X (paper.Pair Y Z)) → (f : ℕ × ℕ × ℕ × ℕ) × IsFour file r f W X Y Z
  unfolding four_of
  four_complete r l e =
      let (p, isp) = pair_complete file P r l e in
      let (t, ist) = three_complete p.1 isp.second.row isp.second.meant in (
        (p.0, t.0, t.1, t.2),
        record {
          found = rw (isp.found, ist.found) refl;
          whole = e;
          first = isp.first;
          second = ist.first;
          third = ist.second;
          fourth = ist.third;
        },
      )

  pub four_sound : (r : ℕ) {f : ℕ × ℕ × ℕ × ℕ} → r < rows_of file → four_of file r ≡ Some f →
      IsFour file r f (message file f.0) (message file f.1) (message file f.2) (message file f.3)
  unfolding four_of
  four_sound r l h =
      let (p, ep, hp) = and_then_some h in
      let (t, et, ht) = and_then_some hp in
      let isp = pair_sound file P r l ep in
      let ist = three_sound p.1 isp.second.row et in
      let (f, isf) = four_complete r l (rw ist.whole at isp.whole) in
      rw (one_found h isf.found, isf.first.meant, isf.second.meant, isf.third.meant, isf.fourth.meant) isf
