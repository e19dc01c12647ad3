use Rattle.tta_code.proofs.legality.check_move.Goals as goal

-- each test that the move has passed, and the one that it has not, as its callee answers it
pub returns-then-not-has_read_left : goal.returns-then-not-has_read_left
returns-then-not-has_read_left c =
    rw (← c.has_bus.ensures, c.if-has_bus.false, ← c.joins.ensures, c.if-not-joins.false, ← c.has_read_left.ensures, c.if-not-has_read_left.true)

pub returns-then-not-has_write_left : goal.returns-then-not-has_write_left
returns-then-not-has_write_left c =
    rw (
      ← c.has_bus.ensures,
      c.if-has_bus.false,
      ← c.joins.ensures,
      c.if-not-joins.false,
      ← c.has_read_left.ensures,
      c.if-not-has_read_left.false,
      ← c.has_write_left.ensures,
      c.if-not-has_write_left.true,
    )

pub returns-then-not-is_place_free : goal.returns-then-not-is_place_free
returns-then-not-is_place_free c =
    rw (
      ← c.has_bus.ensures,
      c.if-has_bus.false,
      ← c.joins.ensures,
      c.if-not-joins.false,
      ← c.has_read_left.ensures,
      c.if-not-has_read_left.false,
      ← c.has_write_left.ensures,
      c.if-not-has_write_left.false,
      ← c.is_place_free.ensures,
      c.if-not-is_place_free.true,
    )

pub returns : goal.returns
returns c =
    rw (
      ← c.has_bus.ensures,
      c.if-has_bus.false,
      ← c.joins.ensures,
      c.if-not-joins.false,
      ← c.has_read_left.ensures,
      c.if-not-has_read_left.false,
      ← c.has_write_left.ensures,
      c.if-not-has_write_left.false,
      ← c.is_place_free.ensures,
      c.if-not-is_place_free.false,
    )
