mod OnePicture
mod DrawnOnExamples
