use Rattle.tta_text.proofs.Places.{number_of-worth, negative_of-worth}
use Rattle.tta_text.proofs.law.digits_count_by_place.Goals as goal

pub returns : goal.returns
returns c = record { number = number_of-worth; negative = negative_of-worth }
