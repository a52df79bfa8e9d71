mod Lowest
