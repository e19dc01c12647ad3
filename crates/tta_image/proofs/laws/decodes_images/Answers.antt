use Rattle.tta_image.proofs.ImageDecoded.{decoded_of_image, image_of_decoded}
use Rattle.tta_image.proofs.laws.decodes_images.Goals as goal

pub returns : goal.returns
returns c = λ m digest whole bytes rules many small. (image_of_decoded m digest whole bytes rules many small, decoded_of_image m digest whole bytes rules many)
