use Rattle.tta_load.proofs.write.write_out.Goals as goal

pub returns-in-Err-Failed : goal.returns-in-Err-Failed
returns-in-Err-Failed g c =
    let done = rw c.in-Err-Failed.field-0-is at c.in-Err-Failed.ensures.written in
    let rose = rw c.in-Err-Failed.field-0-is at c.in-Err-Failed.ensures.cause in
    let told = rw c.in-Err-Failed.field-0-is at c.in-Err-Failed.ensures.blame in
    (done, rose, told)
