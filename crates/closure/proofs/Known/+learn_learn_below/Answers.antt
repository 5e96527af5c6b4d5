-- The proof of the cycle of calls {learn, learn_below}. Each return is a case of `learn_row` or of `below`. Assumes nothing.
use mathlib.Core.Path.{sym, ◌∙◌}
use Rattle.closure.proofs.Marks.{public_known}
use Rattle.closure.proofs.Depth.{learn_known, learn_past, learn_pair, learn_crypt, learn_shut, learn_public, learn_private, learn_session, learn_other, below_taken}
use Rattle.closure.proofs.Known.+learn_learn_below.Goals.{learn-then-row_marked-via-then-row_marked, learn-then-row_marked-via-else-row_marked+then-row-ge-ROWS, learn-in-Pair, learn-in-Crypt+then-opens, learn-in-Crypt+else-opens, learn-in-PublicKey, learn-in-PrivateKey, learn-in-SessionKey, learn-in_default}
use Rattle.closure.proofs.Known.+learn_learn_below.Goals as goal

pub learn-returns-then-row_marked : goal.learn-returns-then-row_marked
learn-returns-then-row_marked t c =
    let a = c.args in
    let k = a.self.now in
    elim c.then-row_marked.branch [
      | learn-then-row_marked-via-then-row_marked w ↦ learn_known a.file.now k.rows k.keys a.row (sym c.row_marked.ensures ∙ w.if-row_marked.true)
      | learn-then-row_marked-via-else-row_marked+then-row-ge-ROWS w ↦ learn_past a.file.now k.rows k.keys a.row w.if-row-ge-ROWS.true
    ]

pub learn-returns : goal.learn-returns
learn-returns t c =
    let a = c.args in
    let k = a.self.now in
    let u = sym c.row_marked.ensures ∙ c.if-row_marked.false in
    let l = c.if-row-ge-ROWS.false in
    rw c.from-2.ensures
    (elim c.match-row_at.branch [
      | learn-in-Pair w ↦
          rw (w.self-is, w.fresh-is)
          (learn_pair a.file.now k.rows k.keys a.row u l w.in-Pair.x w.in-Pair.y w.in-Pair.ensures _ _ _ w.learn_below-left.ensures _ _ _ w.learn_below-right.ensures)
      | learn-in-Crypt+then-opens w ↦
          rw (w.self-is, w.fresh-is)
          (learn_crypt a.file.now k.rows k.keys a.row u l w.in-Crypt.k w.in-Crypt.body w.in-Crypt.ensures (sym w.opens_with-opens.ensures ∙ w.if-opens.true) _ _ _ w.learn_below.ensures)
      | learn-in-Crypt+else-opens w ↦
          rw (w.self-is, w.fresh-is)
          (learn_shut a.file.now k.rows k.keys a.row u l w.in-Crypt.k w.in-Crypt.body w.in-Crypt.ensures (sym w.opens_with-opens.ensures ∙ w.if-opens.false))
      | learn-in-PublicKey w ↦
          rw (w.self-is, w.fresh-is, w.put.ensures, w.from.ensures, public_known k.keys w.in-PublicKey.a.0)
          (learn_public a.file.now k.rows k.keys a.row u l w.in-PublicKey.a w.in-PublicKey.ensures)
      | learn-in-PrivateKey w ↦
          rw (w.self-is, w.fresh-is, w.put-in-PrivateKey.ensures, w.from-in-PrivateKey.ensures)
          (learn_private a.file.now k.rows k.keys a.row u l w.in-PrivateKey.a w.in-PrivateKey.ensures)
      | learn-in-SessionKey w ↦
          rw (w.self-is, w.fresh-is) (learn_session a.file.now k.rows k.keys a.row u l _ _ _ _ w.in-SessionKey.ensures)
      | learn-in_default w ↦
          let d = w.in_default in
          rw (w.self-is, w.fresh-is)
          (learn_other a.file.now k.rows k.keys a.row u l _ c.row_at.ensures d.not-Pair d.not-Crypt d.not-PublicKey d.not-PrivateKey d.not-SessionKey)
    ])

pub learn_below-returns-then-x-row : goal.learn_below-returns-then-x-row
learn_below-returns-then-x-row t c =
    let a = c.args in
    c.learn.ensures ∙ below_taken a.file.now a.self.now.rows a.self.now.keys a.row a.x c.if-x-row.true
